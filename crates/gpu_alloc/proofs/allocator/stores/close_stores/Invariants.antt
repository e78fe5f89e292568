use Rattle.std.specs.List.{All}
use Rattle.gpu_alloc.specs.Stores.{HaveNoChunk}
use Rattle.gpu_alloc.proofs.allocator.stores.close_stores.Given as goal

-- no chunk is left
abbrev pub invariant-loop-stores : goal.invariant-loop-stores
invariant-loop-stores g l = All HaveNoChunk l.types.items

abbrev pub decreases-loop-stores : goal.decreases-loop-stores
decreases-loop-stores g l = goal.left-loop-stores g l
