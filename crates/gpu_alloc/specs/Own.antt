-- The objects that are held for one block each.
use Rattle.std.specs.Prelude.{◌≡◌, ◌≢◌, ℕ, cond, Some, IsTrue}
use Rattle.std.specs.FinMap as map_of
use Rattle.std.specs.FinSet as set
use Rattle.std.specs.Ordering.{nat_cmp}
use Rattle.slab.specs.Slab.{Slab, get}
use Rattle.gpu_alloc_base.specs.SlabViews.{map_by, set_by}
use Rattle.gpu_alloc_block.specs.State.{HeldObject, Span, span_cmp}
use Rattle.gpu_alloc_block.specs.declared.block.Kind.TheVariants.{Dedicated, Imported}
use Rattle.gpu_alloc.specs.declared.own.OwnRow.{OwnRow}
use Rattle.gpu_alloc.specs.declared.spans.HeldRow.{HeldRow}
use Rattle.gpu_alloc_base.specs.declared.buddy_block.Leaf.{Leaf as LiveSpan}

-- the objects by name, the spans of their blocks, and how many more there is room for
pub record OwnTable : Type 0 where
  pub held : map_of.FinMap nat_cmp HeldObject
  pub live : set.FinSet span_cmp
  pub room : ℕ

-- What a row says.

abbrev pub own_row_name : OwnRow → ℕ
own_row_name row = row.object

abbrev pub own_span : OwnRow → Span
own_span row = record { object = row.object; offset = row.offset; size = row.size }

abbrev pub own_held : OwnRow → HeldObject
own_held row = record { memory_type = row.memory_type; counted = row.size; kind = cond row.imported Imported Dedicated }

-- the same as rows of a list
abbrev pub row_of : OwnRow → HeldRow
row_of row = record { memory_type = (own_held row).memory_type; counted = (own_held row).counted; kind = (own_held row).kind }

abbrev pub live_span_of : OwnRow → LiveSpan
live_span_of row = record { object = row.object; offset = row.offset; size = row.size; chunk = 0; index = 0 }

abbrev pub own_table : Slab OwnRow → ℕ → OwnTable
own_table rows room = record { held = map_by own_row_name own_held rows; live = set_by own_span rows; room = room }

-- the object stands under the key
abbrev pub StandsUnder : Slab OwnRow → ℕ → ℕ → Type 0
StandsUnder rows object key = (row : OwnRow) × (get rows key ≡ Some row) × (row.object ≡ object)

-- the object stands under no key
abbrev pub StandsNowhere : Slab OwnRow → ℕ → Type 0
StandsNowhere rows object = (key : ℕ) (row : OwnRow) → get rows key ≡ Some row → row.object ≢ object

-- the object is held as its row says, and exactly the row's span is live in it
pub record IsRowOf (held : map_of.FinMap nat_cmp HeldObject) (live : set.FinSet span_cmp) (object : ℕ) (row : OwnRow) : Type 0 where
  pub named : row.object ≡ object
  pub is_held : map_of.get held object ≡ Some (own_held row)
  pub is_live : IsTrue (set.contains live (own_span row))
  pub alone : (span : Span) → IsTrue (set.contains live span) → span.object ≡ object → span ≡ own_span row
