use Rattle.gpu_alloc_runs.specs.Inside.{chunks_of_rows, live_row}
use Rattle.gpu_alloc_runs.proofs.Made.{AreMade}
use Rattle.gpu_alloc_runs.proofs.fits.Fits.list_live.Given as goal

-- the tiles so far are listed
abbrev pub invariant-loop-node : goal.invariant-loop-node
invariant-loop-node g l =
    (goal.iterator-loop-node g).can_next l.node-iterator × (goal.iterator-loop-node g).is_finite l.node-iterator
    × AreMade (live_row (chunks_of_rows g.M.MemoryObject.object l.self-inside.chunks)) l.self-inside.tiles l.fn.rows.items l.rows.items l.node-iterator
