use Rattle.gpu_alloc.proofs.WholeParts.{IsLeft, left_from}
use Rattle.gpu_alloc.proofs.allocator.GpuAllocator.held.Given as goal

-- what is held under the name is held in the stores that are left
abbrev pub invariant-loop-memory_type : goal.invariant-loop-memory_type
invariant-loop-memory_type g l = IsLeft l.self.held l.object (left_from l.self-inside.types.items l.memory_type)
