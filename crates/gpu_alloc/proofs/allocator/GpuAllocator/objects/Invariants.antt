use Rattle.gpu_alloc.proofs.WholeParts.{AreMet, left_from}
use Rattle.gpu_alloc.proofs.allocator.GpuAllocator.objects.Given as goal

-- the rows so far, and the stores that are left
abbrev pub invariant-loop-memory_type : goal.invariant-loop-memory_type
invariant-loop-memory_type g l = AreMet l.self.held l.rows.items (left_from l.self-inside.types.items l.memory_type)
