use Rattle.std.proofs.Common.{◌≡◌, ◌++◌, map, take}
use Rattle.gpu_alloc_pairs.specs.Blocks.{chunks_in}
use Rattle.gpu_alloc_pairs.specs.Halves.{halves_from, leaf_of}
use Rattle.gpu_alloc_pairs.specs.declared.pair.Use.TheVariants.{Taken}
use Rattle.gpu_alloc_pairs.proofs.pairs.Pairs.list_live.Given as goal

-- the blocks of that many lengths were listed
abbrev pub invariant-loop-order : goal.invariant-loop-order
invariant-loop-order g l =
    l.leaves.items ≡ l.fn.leaves.items ++ map (leaf_of (chunks_in g.M.MemoryObject.object l.chunks)) (halves_from Taken 0 (take l.order l.lengths.items))
