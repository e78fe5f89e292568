-- What a call is denied for that lacks memory for its answers.
use Rattle.std.proofs.Common.{◌≡◌, ℕ, false, MatchBool, Option, Some, None, List, inl, inr, refl, sym, subst}
use Rattle.std.specs.Option.{unwrap_or}
use Rattle.std.specs.Prelude.{map}
use Rattle.gpu_answers.specs.declared.question.Answered.{Answered}
use Rattle.gpu_desk.specs.Calls.{AllocationDenied, HeldDenied, IsFaultOf, MapDenied, fault_of_alloc, fault_of_map}
use Rattle.gpu_desk.specs.Desk.{DeskState}
use Rattle.gpu_desk.specs.declared.denial.Denial.TheVariants as denied
use Rattle.gpu_session.specs.declared.command.Fault.{Fault}
use Rattle.gpu_session.specs.declared.command.Fault.TheVariants.{NoMemory}
use Rattle.wallthyme.specs.Allocating.{IsDenied}
use Rattle.wallthyme.specs.Layout.{answered_of, is_held_only, request_of, wish_of}
use Rattle.wallthyme.specs.Status.{Denies, status_of_fault}
use Rattle.wallthyme.specs.declared.layout.Question.{Question}
use Rattle.wallthyme.specs.declared.layout.Request.{Request}

-- the condition that it misses, or want of memory
pub memory_denies : (missed : Option Fault) (status : ℕ) → status ≡ status_of_fault (unwrap_or missed NoMemory) → Denies (IsFaultOf missed) status
memory_denies None status is = (denied.Fault NoMemory, (NoMemory, refl, inr (refl, refl)), is)
memory_denies (Some fault) status is = (denied.Fault fault, (fault, refl, inl refl), is)

-- so is a request that may ask
pub request_denied : (r : Request) (asked : List Question) (s : DeskState) (status : ℕ) → is_held_only r ≡ false
    → Denies (IsFaultOf (fault_of_alloc s (request_of r))) status → Denies (IsDenied r asked s) status
unfolding AllocationDenied
request_denied r asked s status may_ask (d, fault, is) = (
  d,
  subst (λ b. MatchBool b (HeldDenied s (request_of r) (wish_of r) d) (AllocationDenied s (request_of r) (wish_of r) (map answered_of asked) d)) (sym may_ask) (inl fault),
  is,
)

-- and a mapping
pub mapping_denied : (s : DeskState) (key offset size : ℕ) (answers : List Answered) (status : ℕ)
    → Denies (IsFaultOf (fault_of_map s key offset size)) status → Denies (MapDenied s key offset size answers) status
unfolding MapDenied
mapping_denied s key offset size answers status (d, fault, is) = (d, inl fault, is)
