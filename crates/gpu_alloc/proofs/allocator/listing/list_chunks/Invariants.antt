use Rattle.std.proofs.Common.{◌≡◌, ◌++◌, ℕ, Contains, map}
use Rattle.gpu_alloc.specs.declared.spans.HeldRow.{HeldRow}
use Rattle.gpu_alloc.proofs.allocator.listing.list_chunks.Given as goal

-- the rows so far, and those that are left, each of which is listed
abbrev pub invariant-loop-chunk : goal.invariant-loop-chunk
invariant-loop-chunk g l =
    let row : (ℕ × g.row.C.Denot) → ℕ × HeldRow = λ e. g.C.ListedChunk.listed e.1 l.memory_type in
    (goal.iterator-loop-chunk g).can_next l.chunk-iterator ×
    (goal.iterator-loop-chunk g).is_finite l.chunk-iterator ×
    (l.rows.items ++ map row l.chunk-iterator ≡ l.fn.rows.items ++ map row l.initial.chunk-iterator) ×
    ((e : ℕ × g.row.C.Denot) → Contains l.chunk-iterator e → Contains l.initial.chunk-iterator e)
