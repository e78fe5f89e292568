-- What the calls of a store of exact runs do.
use Rattle.std.specs.Prelude.{◌≡◌, ℕ, ◌<◌, ◌≤◌, Option, Some, None, Result, Ok, Err}
use Rattle.std.specs.FinMap as map
use Rattle.gpu_alloc_runs.specs.Space.{FitSpace, HasPlace, IsFitting, IsSpare, with_slot, without_chunk, without_slot}
use Rattle.gpu_alloc_base.specs.declared.free_list_block.Slot.{Slot}

-- A store: its space, and how many more chunks and tiles there is room for.
pub record FitStore : Type 0 where
  pub space : FitSpace
  pub chunk_room : ℕ
  pub tile_room : ℕ

-- there is room for one more chunk with one more block, which may be cut out of its middle
pub record HasTileRooms (s : FitStore) : Type 0 where
  pub chunk : 0 < s.chunk_room
  pub tiles : 3 ≤ s.tile_room

-- a place is looked for: a block in one, or none there, or no host memory for a block in one
abbrev pub TakesFit : {E : Type 0} → FitSpace → ℕ → ℕ → Result (Option Slot) E → FitSpace → Type 0
TakesFit s size alignment (Ok None) new = (HasPlace s size alignment → ⊥) × (new ≡ s)
TakesFit s size alignment (Ok (Some slot)) new = IsFitting s size alignment slot × (new ≡ with_slot s slot)
TakesFit s size alignment (Err e) new = HasPlace s size alignment × (new ≡ s)

-- A block is returned. If its chunk is then wholly free and another one is too, the chunk is removed, and handed back
-- as a handle of its object and its size. Otherwise it stays.
abbrev pub PutsBack : {M : Type 0} → (M → ℕ) → FitSpace → Slot → Option (M × ℕ) → FitSpace → Type 0
PutsBack object s slot None new =
    (IsSpare (without_slot s slot) slot.chunk → ⊥) × (new ≡ without_slot s slot)
PutsBack object s slot (Some gone) new =
    IsSpare (without_slot s slot) slot.chunk
    × ((map.get s.chunks slot.chunk ≡ Some (record { object = object gone.0; size = gone.1 }))
    × (new ≡ without_chunk (without_slot s slot) slot.chunk))
