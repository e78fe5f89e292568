use Rattle.std.proofs.Common.{map}
use Rattle.gpu_alloc.specs.Spans.{span_in}
use Rattle.gpu_alloc.proofs.WholeParts.{AreLiveMet, left_from}
use Rattle.gpu_alloc.proofs.allocator.GpuAllocator.live.Given as goal

-- the rows so far, and the stores that are left
abbrev pub invariant-loop-stores : goal.invariant-loop-stores
invariant-loop-stores g l = AreLiveMet l.self.live (map span_in l.rows.items) (left_from l.stores-items l.stores-index)
