-- The held objects, from their rows.
use Rattle.std.specs.Prelude.{◌≡◌, ◌≢◌, ℕ, ◌-◌, Some, refl}
use Rattle.std.specs.Coded.{Coded, code_by, coded×, coded_ℕ}
use Rattle.std.specs.FinMap as map
use Rattle.std.specs.FinMap.{FinMap}
use Rattle.std.specs.Ordering.{nat_cmp}
use Rattle.slab.specs.Slab.{Slab, get, slab_len}
use Rattle.gpu_alloc_base.specs.SlabViews.{map_by}
use Rattle.gpu_answers.specs.declared.objects.HeldObject.{HeldObject}
use Rattle.gpu_answers.specs.declared.objects.ObjectRow.{ObjectRow}
use Rattle.gpu_answers.specs.contracts.objects.HeldObject as held_object

-- the objects by name, and how many more fit in without an allocation
pub record ObjectsState : Type 0 where
  pub objects : FinMap nat_cmp HeldObject
  pub room : ℕ

abbrev pub objects_code : Coded ObjectsState
objects_code =
    code_by (FinMap nat_cmp HeldObject × ℕ) (coded× (map.code coded_ℕ held_object.the_row.coded) coded_ℕ)
    (λ s. (s.objects, s.room)) (λ c. record { objects = c.0; room = c.1 }) (λ _. refl)

abbrev pub name_in : ObjectRow → ℕ
name_in row = row.name

abbrev pub row_object : ObjectRow → HeldObject
row_object row = row.object

-- the objects that rows stand for
abbrev pub objects_in : Slab ObjectRow → ObjectsState
objects_in rows = record { objects = map_by name_in row_object rows; room = rows.capacity - slab_len rows }

-- the name's row is at the place
abbrev pub IsUnder : Slab ObjectRow → ℕ → ℕ → Type 0
IsUnder rows name place = (row : ObjectRow) × (get rows place ≡ Some row) × (name_in row ≡ name)

-- the name's row is nowhere
abbrev pub IsNowhere : Slab ObjectRow → ℕ → Type 0
IsNowhere rows name = (place : ℕ) (row : ObjectRow) → get rows place ≡ Some row → name_in row ≢ name
