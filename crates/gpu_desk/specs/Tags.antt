-- What is kept with blocks, by the place of the key.
use Rattle.std.specs.Prelude.{ℕ, false, List, slice_index_or}
use Rattle.gpu_slots.specs.SlotMap.{place_of}
use Rattle.gpu_desk.specs.declared.wish.Tag.{Tag}

-- the tag of the block of a key
abbrev pub tag_at : List Tag → ℕ → Tag
tag_at tags key = slice_index_or tags (place_of key) (record { user = 0; asked = 0; optimal = false })
