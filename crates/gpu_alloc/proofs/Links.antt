-- A block of a free list or of a fit chunk, by its span and its chunk's key.
use Rattle.std.proofs.Common.{ℕ}
use Rattle.gpu_alloc_base.specs.declared.free_list_block.Slot.{Slot}
use Rattle.gpu_alloc_block.specs.State.{Span}

abbrev pub slot_at : Span → ℕ → Slot
slot_at span number = record { object = span.object; chunk = number; offset = span.offset; size = span.size }
