use Rattle.std.proofs.Common.{◌≡◌, length, nat_eq, false, Ok, Err, arith}
use Rattle.std.proofs.lemmas.Bool.Decides.{nat_tests}
use Rattle.std.proofs.lemmas.Nat.{one_shl}
use Rattle.gpu_alloc.specs.Allocation.{candidates_of, is_too_large}
use Rattle.gpu_alloc.proofs.HeldOnly.{taken}
use Rattle.gpu_alloc.proofs.allocator.GpuAllocator.take_held.Given.{Over}
use Rattle.gpu_alloc.proofs.allocator.GpuAllocator.take_held.Goals.{In-Some}
use Rattle.gpu_alloc.proofs.allocator.GpuAllocator.take_held.Goals as goal

-- With a place nothing is asked.

within : (g : Over) (c : In-Some g) → is_too_large c.args.self.now c.args.request.now ≡ false
within g c = grind (arith, nat_tests, c.max_allocation_size.ensures, c.if-request-max_allocation_size.false)

some : (g : Over) (c : In-Some g) → nat_eq (length (candidates_of c.args.self.now c.args.request.now)) 0 ≡ false
some g c = grind (arith, nat_tests, c.has_candidate.ensures, c.if-not-has_candidate.false, c.if-not-has_candidate.ensures)

pub returns-in-Ok : goal.returns-in-Ok
returns-in-Ok g c =
    let at = (goal.at.returns-in-Ok g c).In-Some in
    let it = taken c.args.self.now c.args.request.now c.args.hint c.args.paged.now c.in-Some.memory_type (within g at) (some g at) c.in-Some.ensures.first (one_shl c.in-Some.memory_type 32 c.in-Some.ensures.few) (Ok c.in-Ok.block) _ c.in-Ok.ensures.decided in
    record { decided = it.0; unasked = it.1; objects = c.in-Ok.ensures.objects }

pub returns-in-Err : goal.returns-in-Err
returns-in-Err g c =
    let at = (goal.at.returns-in-Err g c).In-Some in
    let it = taken c.args.self.now c.args.request.now c.args.hint c.args.paged.now c.in-Some.memory_type (within g at) (some g at) c.in-Some.ensures.first (one_shl c.in-Some.memory_type 32 c.in-Some.ensures.few) (Err c.in-Err.refusal) _ c.in-Err.ensures.decided in
    record { decided = it.0; unasked = it.1; objects = c.in-Err.ensures.objects }
