-- How a `SlotMap` lays out its values. No public clause cites this module.
use Rattle.std.specs.Prelude.{◌≡◌, ◌≢◌, ℕ, ◌+◌, ◌-◌, ◌*◌, ◌^◌, ◌<◌, ◌≤◌, min, List, [], ◌∷◌, length, Option, Some, None, IsSome, slice_index, slice_index_or}
use Rattle.std.specs.FinMap as map
use Rattle.std.specs.FinMap.{FinMap}
use Rattle.std.specs.Ordering.{nat_cmp}
use Rattle.gpu_slots.specs.declared.slot_map.Place.{Place}

-- How many more values fit in: one for each free place, and one for each place that may be added. The latter are
-- limited by the 2^32 - 1 that there can be, and by the room for them, also among the free places for when the value is
-- removed.
abbrev pub room_in : (places places_capacity free len free_capacity : ℕ) → ℕ
room_in places places_capacity free len free_capacity =
    free + min (free_capacity - (free + len)) (min (places_capacity - places) (2 ^ 32 - 1 - places))

module _ {T : Type 0} where
  -- the key of that generation and place with its value, if there is one
  abbrev pub entry_at : (generation place : ℕ) → Option T → List (ℕ × T) → List (ℕ × T)
  entry_at generation place None later = later
  entry_at generation place (Some value) later = (generation * 2 ^ 32 + place, value) ∷ later

  -- the keys and values of these places, of which the first has this number
  abbrev pub live_from : ℕ → List (Place T) → List (ℕ × T)
  live_from place [] = []
  live_from place (p ∷ rest) = entry_at p.generation place p.value (live_from (place + 1) rest)

  -- the values by key
  abbrev pub live_in : List (Place T) → FinMap nat_cmp T
  live_in places = map.from_entries (live_from 0 places)

  -- the place of that number, which is empty where it is past the last
  abbrev pub place_at : List (Place T) → ℕ → Place T
  place_at places i = slice_index_or places i (record { generation = 0; value = None })

  -- the place is empty, and a generation is left for its next value
  pub record IsFree (places : List (Place T)) (i : ℕ) : Type 0 where
    pub within : i < length places
    pub empty : (place_at places i).value ≡ None
    pub unspent : (place_at places i).generation < 2 ^ 32

  -- What always holds. There is room among the free places for the place of each value.
  pub record AreSoundPlaces (places : List (Place T)) (free : List ℕ) (len free_capacity : ℕ) : Type 0 where
    pub few : length places < 2 ^ 32
    pub counted : len ≡ map.len (live_in places)
    pub begun : (i : ℕ) → i < length places → 0 < (place_at places i).generation
    pub unspent : (i : ℕ) → IsSome (place_at places i).value → (place_at places i).generation < 2 ^ 32
    pub all_free : (k : ℕ) → k < length free → IsFree places (slice_index free k)
    pub distinct : (j k : ℕ) → j < k → k < length free → slice_index free j ≢ slice_index free k
    pub fits : length free + len ≤ free_capacity
