-- What contracts see of a `SlotMap`.
use Rattle.std.specs.Prelude.{◌≡◌, ◌≢◌, ◌⊎◌, ℕ, ◌+◌, ◌/◌, ◌%◌, ◌^◌, ◌<◌, ◌≤◌, List, length, Some, None, IsSome, slice_index, refl}
use Rattle.std.specs.Coded.{Coded, code_by, coded×, coded_ℕ, coded_list}
use Rattle.std.specs.FinMap as map
use Rattle.std.specs.FinMap.{FinMap}
use Rattle.std.specs.Ordering.{nat_cmp}

-- The values by key, the generation of each place, which is that of its value or of its next one, and how many more
-- values fit in without an allocation
pub record SlotState (T : Type 0) : Type 0 where
  pub live : FinMap nat_cmp T
  pub generations : List ℕ
  pub room : ℕ

abbrev pub slots_code : {T : Type 0} → Coded T → Coded (SlotState T)
slots_code {T} code =
    code_by (FinMap nat_cmp T × (List ℕ × ℕ))
    (coded× (map.code coded_ℕ code) (coded× (coded_list coded_ℕ) coded_ℕ))
    (λ s. (s.live, (s.generations, s.room)))
    (λ c. record { live = c.0; generations = c.1.0; room = c.1.1 }) (λ _. refl)

-- the map after a write through `get_mut(key)`
abbrev pub with_value : {T : Type 0} → SlotState T → ℕ → T → SlotState T
with_value s key value = record s { live = map.insert s.live key value }

-- the place of a key, its lower 32 bits
abbrev pub place_of : ℕ → ℕ
place_of key = key % 2 ^ 32

-- the generation of a key, its upper 32 bits
abbrev pub generation_of : ℕ → ℕ
generation_of key = key / 2 ^ 32

-- the key was given, to a value that is there or to one that was removed: the latter's generation is earlier than its
-- place's, and generations begin at 1
abbrev pub IsGiven : {T : Type 0} → SlotState T → ℕ → Type 0
IsGiven s key =
    ((0 < generation_of key) × (generation_of key < slice_index s.generations (place_of key))) ⊎ IsSome (map.get s.live key)

-- the key was given, and its value was removed
abbrev pub IsGone : {T : Type 0} → SlotState T → ℕ → Type 0
IsGone s key = IsGiven s key × (map.get s.live key ≡ None)

-- each removed key stays removed
abbrev pub StaysGone : {T : Type 0} → SlotState T → SlotState T → Type 0
StaysGone old new = (key : ℕ) → IsGone old key → IsGone new key

-- A key that had no value has this one now, and every other key what it had.
pub record PutsAt {T : Type 0} (old : FinMap nat_cmp T) (key : ℕ) (value : T) (new : FinMap nat_cmp T) : Type 0 where
  pub free : map.get old key ≡ None
  pub there : map.get new key ≡ Some value
  pub others : (other : ℕ) → other ≢ key → map.get new other ≡ map.get old other
  pub count : map.len new ≡ map.len old + 1

-- The value under a key is removed, and every other key has what it had.
pub record TakesAt {T : Type 0} (old : FinMap nat_cmp T) (key : ℕ) (value : T) (new : FinMap nat_cmp T) : Type 0 where
  pub taken : map.get old key ≡ Some value
  pub gone : map.get new key ≡ None
  pub others : (other : ℕ) → other ≢ key → map.get new other ≡ map.get old other
  pub count : map.len new + 1 ≡ map.len old

-- no key has a value
pub record HasNoValues {T : Type 0} (live : FinMap nat_cmp T) : Type 0 where
  pub none : (key : ℕ) → map.get live key ≡ None
  pub count : map.len live ≡ 0

-- Where values lie.

-- each live key has a place that exists, and no other live key has it
pub record ArePlaced {T : Type 0} (s : SlotState T) : Type 0 where
  pub within : (key : ℕ) → IsSome (map.get s.live key) → place_of key < length s.generations
  pub alone : (key other : ℕ) → IsSome (map.get s.live key) → IsSome (map.get s.live other)
      → place_of key ≡ place_of other → key ≡ other

-- the key's place is one that existed, or was added after the last
abbrev pub TakesPlace : {T : Type 0} → SlotState T → ℕ → SlotState T → Type 0
TakesPlace old key new =
    ((place_of key < length old.generations) × (length new.generations ≡ length old.generations))
    ⊎ ((place_of key ≡ length old.generations) × (length new.generations ≡ length old.generations + 1))

-- no value lies at that place or at a later one
abbrev pub HasNoneFrom : {T : Type 0} → SlotState T → ℕ → Type 0
HasNoneFrom s place = (key : ℕ) → IsSome (map.get s.live key) → place_of key < place

-- The key is that of the first value at that place or at a later one: each other value lies before the place, or after
-- the key's place.
pub record IsFirstFrom {T : Type 0} (s : SlotState T) (place key : ℕ) : Type 0 where
  pub never_zero : key ≢ 0
  pub live : IsSome (map.get s.live key)
  pub from : place ≤ place_of key
  pub others : (other : ℕ) → IsSome (map.get s.live other)
      → (other ≡ key) ⊎ ((place_of other < place) ⊎ (place_of key < place_of other))
