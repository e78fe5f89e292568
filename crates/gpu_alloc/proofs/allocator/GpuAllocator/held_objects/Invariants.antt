use Rattle.std.specs.FinMap as finite
use Rattle.gpu_alloc.proofs.WholeParts.{AreCounted, left_from}
use Rattle.gpu_alloc.proofs.allocator.GpuAllocator.held_objects.Given as goal

-- how many so far, and the stores that are left
abbrev pub invariant-loop-stores : goal.invariant-loop-stores
invariant-loop-stores g l = AreCounted (finite.len l.self.held) l.count (left_from l.stores-items l.stores-index)
