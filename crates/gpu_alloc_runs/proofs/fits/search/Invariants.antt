use Rattle.gpu_alloc_runs.specs.Inside.{IsBlockTile, chunks_of_rows}
use Rattle.gpu_alloc_runs.proofs.Searches.{AreLeft}
use Rattle.gpu_alloc_runs.proofs.fits.search.Given as goal

abbrev pub invariant-loop-key : goal.invariant-loop-key
invariant-loop-key g l =
    (goal.iterator-loop-key g).can_next l.key-iterator × (goal.iterator-loop-key g).is_finite l.key-iterator
    × AreLeft l.tiles (IsBlockTile (chunks_of_rows g.M.MemoryObject.object l.chunks) l.object l.offset l.size) l.key-iterator
