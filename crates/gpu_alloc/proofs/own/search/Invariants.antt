use Rattle.std.proofs.Common.{◌≡◌, ℕ, Some, Contains}
use Rattle.slab.specs.Slab.{get}
use Rattle.gpu_alloc.specs.declared.own.OwnRow.{OwnRow}
use Rattle.gpu_alloc.proofs.own.search.Given as goal

-- a row of the object is among the entries that are left, and each of these is the slab's
abbrev pub invariant-loop-key : goal.invariant-loop-key
invariant-loop-key g l =
    (goal.iterator-loop-key g).can_next l.key-iterator ×
    (goal.iterator-loop-key g).is_finite l.key-iterator ×
    ((key : ℕ) (row : OwnRow) → get l.rows key ≡ Some row → row.object ≡ l.object → Contains l.key-iterator (key, row)) ×
    ((key : ℕ) (row : OwnRow) → Contains l.key-iterator (key, row) → get l.rows key ≡ Some row)
