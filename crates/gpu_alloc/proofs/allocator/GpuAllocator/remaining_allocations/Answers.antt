use Rattle.std.proofs.Common.{refl}
use Rattle.gpu_alloc.proofs.allocator.GpuAllocator.remaining_allocations.Goals as goal

pub returns : goal.returns
returns g c = rw (← c.self.view_is) refl
