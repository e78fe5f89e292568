use Rattle.std.proofs.Common.{◌≡◌, ℕ, Some, Contains}
use Rattle.slab.specs.Slab.{get}
use Rattle.gpu_alloc_pairs.specs.Blocks.{HasSpan, chunks_in}
use Rattle.gpu_alloc_pairs.specs.Entry.{entry_of}
use Rattle.gpu_alloc_pairs.specs.declared.pair.Pair.{Pair}
use Rattle.gpu_alloc_pairs.proofs.pairs.search.Given as goal

-- a pair that has the span is among the entries that are left, and each of these is the slab's
abbrev pub invariant-loop-key : goal.invariant-loop-key
invariant-loop-key g l =
    (goal.iterator-loop-key g).can_next l.key-iterator ×
    (goal.iterator-loop-key g).is_finite l.key-iterator ×
    ((key : ℕ) (p : Pair) → get l.pairs key ≡ Some p → HasSpan (chunks_in g.M.MemoryObject.object l.chunks) l.order l.object l.offset (entry_of p) → Contains l.key-iterator (key, p)) ×
    ((key : ℕ) (p : Pair) → Contains l.key-iterator (key, p) → get l.pairs key ≡ Some p)
