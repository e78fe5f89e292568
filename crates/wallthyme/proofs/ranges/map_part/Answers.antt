-- Where memory for the answers is missing, the mapping is denied as the desk would.
use Rattle.std.proofs.Common.{inl, inr, subst, map}
use Rattle.gpu_desk.specs.Calls.{IsFaultOf}
use Rattle.wallthyme.specs.Layout.{answered_of}
use Rattle.wallthyme.specs.Status.{Denies}
use Rattle.wallthyme.proofs.Unread.{mapping_denied}
use Rattle.wallthyme.proofs.ranges.map_part.Goals as goal

pub returns-in-Err-clause-denied : goal.returns-in-Err-clause-denied
returns-in-Err-clause-denied c = λ failed. elim c.in-Err.ensures.malformed [
  | inl (invalid, has) ↦ inl (c.status.ensures.invalid invalid, has)
  | inr (no_memory, are) ↦ inr (mapping_denied c.args.desk.now c.args.part.key c.args.part.offset c.args.part.size (map answered_of c.args.asked.now) c.status.result
      (subst (λ missed. Denies (IsFaultOf missed) c.status.result) c.map_fault.ensures (c.status.ensures.denied no_memory)))
]
