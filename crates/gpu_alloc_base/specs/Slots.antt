-- Live blocks of free lists, in order, and the regions that they are compared with.
use Rattle.std.specs.Prelude.{ℕ, ◌+◌, List, [], ◌∷◌}
use Rattle.std.specs.declared.cmp.Ordering.{Ordering}
use Rattle.std.specs.Ordering.{nat_cmp}
use Rattle.std.specs.Cmp.Lexicographic.{slice_cmp}
use Rattle.gpu_alloc_base.specs.declared.free_list_block.Slot.{Slot}
use Rattle.gpu_alloc_base.specs.declared.region.FreeListRegion.{FreeListRegion}

abbrev pub slot_numbers : Slot → List ℕ
slot_numbers b = b.object ∷ b.chunk ∷ b.offset ∷ b.size ∷ []

abbrev pub slot_cmp : Slot → Slot → Ordering
slot_cmp a b = slice_cmp nat_cmp (slot_numbers a) (slot_numbers b)

-- by chunk number, then by start
abbrev pub region_cmp : FreeListRegion → Slot → Ordering
region_cmp r slot = slice_cmp nat_cmp (r.chunk ∷ r.start ∷ []) (slot.chunk ∷ slot.offset ∷ [])

-- the bytes of a block
abbrev pub region_of : Slot → FreeListRegion
region_of slot = record { chunk = slot.chunk; start = slot.offset; end = slot.offset + slot.size }
