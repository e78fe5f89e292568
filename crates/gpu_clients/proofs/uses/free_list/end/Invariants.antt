use Rattle.std.proofs.Common.{◌≡◌}
use Rattle.std.specs.FinMap as map
use Rattle.std.specs.FinSet as set
use Rattle.gpu_clients.proofs.uses.free_list.end.Given as goal

-- no block is live, and each chunk that goes leaves one fewer

abbrev pub invariant-loop-memory : goal.invariant-loop-memory
invariant-loop-memory g l = set.len l.list.space.live ≡ 0

abbrev pub decreases-loop-memory : goal.decreases-loop-memory
decreases-loop-memory g l = map.len l.list.space.chunks
