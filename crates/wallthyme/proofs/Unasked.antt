-- What is served from what is held alone is denied by no question.
use Rattle.std.proofs.Common.{◌≡◌, inl, inr, arith, sym, ◌∙◌, ap}
use Rattle.gpu_alloc.specs.declared.request.Request.{Request}
use Rattle.gpu_alloc_base.specs.declared.error.AllocationError.{AllocationError}
use Rattle.gpu_alloc_base.specs.declared.error.AllocationError.TheVariants as allocation
use Rattle.gpu_desk.specs.Calls.{HeldDenied}
use Rattle.gpu_desk.specs.Desk.{DeskState}
use Rattle.gpu_desk.specs.declared.denial.Denial.{Denial}
use Rattle.gpu_desk.specs.declared.wish.Wish.{Wish}
use Rattle.gpu_session.specs.declared.command.Fault as faults
use Rattle.gpu_session.specs.declared.command.Fault.TheVariants as fault
use Rattle.wallthyme.specs.Status.{status_of, status_of_fault, status_of_refusal}
use Rattle.wallthyme.specs.declared.status.TheConstants as status

fault_unasked : (f : faults.Fault) → status_of_fault f ≡ status.ASK → ⊥
fault_unasked fault.NameInUse is = omega (arith, is)
fault_unasked fault.UnknownName is = omega (arith, is)
fault_unasked fault.BadSize is = omega (arith, is)
fault_unasked fault.BadAlignment is = omega (arith, is)
fault_unasked fault.NoDeviceAddress is = omega (arith, is)
fault_unasked fault.BadRange is = omega (arith, is)
fault_unasked fault.BadType is = omega (arith, is)
fault_unasked fault.NoRemaining is = omega (arith, is)
fault_unasked fault.TooManyRemaining is = omega (arith, is)
fault_unasked fault.BadImportEnd is = omega (arith, is)
fault_unasked fault.NotMapped is = omega (arith, is)
fault_unasked fault.NoMemory is = omega (arith, is)

refusal_unasked : (e : AllocationError) → status_of_refusal e ≡ status.ASK → ⊥
refusal_unasked allocation.OutOfDeviceMemory is = omega (arith, is)
refusal_unasked allocation.OutOfHostMemory is = omega (arith, is)
refusal_unasked allocation.NoCompatibleMemoryTypes is = omega (arith, is)
refusal_unasked allocation.TooManyObjects is = omega (arith, is)

pub held_unasked : (s : DeskState) (r : Request) (w : Wish) (d : Denial) → HeldDenied s r w d → status_of d ≡ status.ASK → ⊥
unfolding HeldDenied
held_unasked s r w d (inl fault) is = fault_unasked fault.0 (ap status_of (sym fault.1) ∙ is)
held_unasked s r w d (inr (none, inl would)) is = let never : status.WOULD_ASK ≡ status.ASK = ap status_of (sym would.0) ∙ is in omega (arith, never)
held_unasked s r w d (inr (none, inr refused)) is = refusal_unasked refused.0 (ap status_of (sym refused.1) ∙ is)
