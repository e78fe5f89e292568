use Rattle.std.proofs.Common.{[]}
use Rattle.gpu_alloc_runs.specs.Inside.{chunks_of_rows, free_range}
use Rattle.gpu_alloc_runs.proofs.Made.{AreMade}
use Rattle.gpu_alloc_runs.proofs.fits.Fits.free_ranges.Given as goal

-- the tiles so far are listed
abbrev pub invariant-loop-node : goal.invariant-loop-node
invariant-loop-node g l =
    (goal.iterator-loop-node g).can_next l.node-iterator × (goal.iterator-loop-node g).is_finite l.node-iterator
    × AreMade (free_range (chunks_of_rows g.M.MemoryObject.object l.self-inside.chunks)) l.self-inside.tiles [] l.ranges.items l.node-iterator
