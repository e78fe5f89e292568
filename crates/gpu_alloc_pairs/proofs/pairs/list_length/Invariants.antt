use Rattle.std.proofs.Common.{◌≡◌, ℕ, ◌++◌, Contains, map}
use Rattle.gpu_alloc_pairs.specs.Blocks.{IsInChunk, chunks_in}
use Rattle.gpu_alloc_pairs.specs.Halves.{halves_of_length, leaf_of}
use Rattle.gpu_alloc_pairs.specs.Seen.{seen}
use Rattle.gpu_alloc_pairs.specs.declared.pair.Pair.{Pair}
use Rattle.gpu_alloc_pairs.specs.declared.pair.Use.TheVariants.{Taken}
use Rattle.gpu_alloc_pairs.proofs.Listing.{made}
use Rattle.gpu_alloc_pairs.proofs.pairs.list_length.Given as goal

-- the blocks so far and those of the pairs that are left are all
abbrev pub invariant-loop-key : goal.invariant-loop-key
invariant-loop-key g l =
    (goal.iterator-loop-key g).can_next l.key-iterator ×
    (goal.iterator-loop-key g).is_finite l.key-iterator ×
    ((key : ℕ) (p : Pair) → Contains l.key-iterator (key, p) → IsInChunk l.chunks l.order p) ×
    (l.leaves.items ++ made Taken (leaf_of (chunks_in g.M.MemoryObject.object l.chunks)) l.order l.key-iterator
    ≡ l.fn.leaves.items ++ map (leaf_of (chunks_in g.M.MemoryObject.object l.chunks)) (halves_of_length Taken l.order (seen l.pairs)))
