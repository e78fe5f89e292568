-- Ranges of a block in whole atoms.
use Rattle.std.specs.Prelude.{ℕ, ◌+◌, ◌-◌, ◌^◌, ◌<◌, ◌≤◌, min, Option, option_map}
use Rattle.gpu_alloc_types.specs.Device.{Range}
use Rattle.gpu_alloc_base.specs.Sizes.{down, up}
use Rattle.gpu_alloc_block.specs.State.{Block}
use Rattle.gpu_alloc_block.specs.declared.block.Mapping.{Mapping}

-- a block ends at a 64-bit number, and its atom is at least 1 byte
pub record HasEnd (offset size atom : ℕ) : Type 0 where
  pub finish : offset + size < 2 ^ 64
  pub some : 0 < atom

-- where the atom begins that holds a place of the block's object
abbrev pub atom_start : Block → ℕ → ℕ
atom_start b place = down place b.atom

-- the end of the first atom that ends at a place of the block's object or after it, or the block's end
abbrev pub atom_end : Block → ℕ → ℕ
atom_end b place = min (up place b.atom) (b.offset + b.size)

-- some bytes of the block's object in whole atoms, cut at the block's end
abbrev pub whole_atoms : Block → (start len : ℕ) → Range
whole_atoms b start len = record {
  object = b.object;
  offset = atom_start b start;
  size = atom_end b (start + len) - atom_start b start;
}

-- the rounded range of some bytes of the block, the first of them at this offset in it
abbrev pub rounded_range : Block → (offset len : ℕ) → Range
rounded_range b offset len = whole_atoms b (b.offset + offset) len

-- the range has all of `len` bytes, the first of them at a place of the object
abbrev pub HasAll : Range → (place len : ℕ) → Type 0
HasAll r place len = (r.offset ≤ place) × (place + len ≤ r.offset + r.size)

-- the mapped range of an object, as an offset and a size, for a mapping
abbrev pub mapped_range : Block → Mapping → ℕ × ℕ
mapped_range b m = ((whole_atoms b m.start m.len).offset, (whole_atoms b m.start m.len).size)

-- the mapped range of the block's object, where that is the block's own
abbrev pub own_mapping : Block → Option (ℕ × ℕ)
own_mapping b = option_map (mapped_range b) b.mapping
