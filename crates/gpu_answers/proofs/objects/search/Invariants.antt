use Rattle.std.proofs.Common.{◌≡◌, ℕ, Some, Contains}
use Rattle.slab.specs.Slab.{get}
use Rattle.gpu_answers.specs.Objects.{name_in}
use Rattle.gpu_answers.specs.declared.objects.ObjectRow.{ObjectRow}
use Rattle.gpu_answers.proofs.objects.search.Given as goal

-- a row of the name is among the entries that are left, and each of these is the slab's
abbrev pub invariant-loop-place : goal.invariant-loop-place
invariant-loop-place l =
    (goal.iterator-loop-place).can_next l.place-iterator ×
    (goal.iterator-loop-place).is_finite l.place-iterator ×
    ((place : ℕ) (row : ObjectRow) → get l.rows place ≡ Some row → name_in row ≡ l.name → Contains l.place-iterator (place, row)) ×
    ((place : ℕ) (row : ObjectRow) → Contains l.place-iterator (place, row) → get l.rows place ≡ Some row)
