-- Rows of what is held and live, and both by name.
use Rattle.std.specs.Prelude.{ℕ, List, map}
use Rattle.std.specs.FinMap as map_of
use Rattle.std.specs.FinSet as set
use Rattle.std.specs.Ordering.{nat_cmp}
use Rattle.gpu_alloc_base.specs.declared.buddy_block.Leaf.{Leaf as LiveSpan}
use Rattle.gpu_alloc_block.specs.State.{HeldObject, Span, span_cmp}
use Rattle.gpu_alloc.specs.declared.spans.HeldRow.{HeldRow}

-- the held objects by name, and the live spans
pub record Table : Type 0 where
  pub held : map_of.FinMap nat_cmp HeldObject
  pub live : set.FinSet span_cmp

abbrev pub span_at : ℕ → ℕ → ℕ → Span
span_at object offset size = record { object = object; offset = offset; size = size }

abbrev pub span_in : LiveSpan → Span
span_in row = span_at row.object row.offset row.size

abbrev pub held_of : HeldRow → HeldObject
held_of row = record { memory_type = row.memory_type; counted = row.counted; kind = row.kind }

-- an object by its name
abbrev pub held_entry_of : ℕ × HeldRow → ℕ × HeldObject
held_entry_of e = (e.0, held_of e.1)

-- held objects by name, from their entries
abbrev pub held_objects_in : List (ℕ × HeldRow) → map_of.FinMap nat_cmp HeldObject
held_objects_in entries = map_of.from_entries (map held_entry_of entries)
