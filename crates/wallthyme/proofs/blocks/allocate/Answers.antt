-- Where memory for the answers is missing, the request is denied as the desk would.
use Rattle.std.proofs.Common.{inl, inr, sym, subst, ◌∙◌, ap}
use Rattle.gpu_desk.specs.Calls.{IsFaultOf, fault_of_alloc}
use Rattle.wallthyme.specs.Status.{Denies}
use Rattle.wallthyme.proofs.Unread.{request_denied}
use Rattle.wallthyme.proofs.blocks.allocate.Goals as goal

pub returns-in-Err-answers_of-clause-denied : goal.returns-in-Err-answers_of-clause-denied
returns-in-Err-answers_of-clause-denied c = λ failed. elim c.in-Err-answers_of.ensures.malformed [
  | inl (invalid, has) ↦ inl (inr (c.status.ensures.invalid invalid, (c.in-Ok.ensures.formed, has)))
  | inr (no_memory, are) ↦ inr (request_denied c.args.request.now c.args.asked.now c.args.desk.now c.status.result (sym c.is_held_only-is_held_only.ensures ∙ c.if-is_held_only.false)
      (subst (λ missed. Denies (IsFaultOf missed) c.status.result) (c.request_fault.ensures ∙ ap (fault_of_alloc c.args.desk.now) c.in-Ok.ensures.request) (c.status.ensures.denied no_memory)))
]
