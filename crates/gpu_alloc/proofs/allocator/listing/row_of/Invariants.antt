use Rattle.std.proofs.Common.{◌≡◌, ℕ, Contains}
use Rattle.gpu_alloc.proofs.allocator.listing.row_of.Given as goal

-- a chunk of this name is among those that are left, and each of these is listed
abbrev pub invariant-loop-chunk : goal.invariant-loop-chunk
invariant-loop-chunk g l =
    (goal.iterator-loop-chunk g).can_next l.chunk-iterator ×
    (goal.iterator-loop-chunk g).is_finite l.chunk-iterator ×
    ((e : ℕ × g.row.C.Denot) → Contains l.initial.chunk-iterator e → (g.C.ListedChunk.listed e.1 l.memory_type).0 ≡ l.object → Contains l.chunk-iterator e) ×
    ((e : ℕ × g.row.C.Denot) → Contains l.chunk-iterator e → Contains l.initial.chunk-iterator e)
