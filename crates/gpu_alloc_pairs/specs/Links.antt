-- The ring of the ready pairs of a slab, and what changes when its links are written.
use Rattle.std.specs.Prelude.{◌≡◌, ◌≢◌, ℕ, Option, Some, None, IsSome, IfSome, IfNone, option_map}
use Rattle.slab.specs.Slab.{Slab, get, slab_len, Updates}
use Rattle.gpu_alloc_pairs.specs.Entry.{entry_of}
use Rattle.gpu_alloc_pairs.specs.Ring.{IsRing}
use Rattle.gpu_alloc_pairs.specs.declared.pair.Pair.{Pair}
use Rattle.gpu_alloc_pairs.specs.declared.pair.Side.{Side}
use Rattle.gpu_alloc_pairs.specs.declared.pair.State.{State}
use Rattle.gpu_alloc_pairs.specs.declared.pair.State.TheVariants.{Exhausted, Ready}

abbrev pub free_side : State → Option Side
free_side Exhausted = None
free_side (Ready side next prev) = Some side

abbrev pub state_next : State → ℕ
state_next Exhausted = 0
state_next (Ready side next prev) = next

abbrev pub state_prev : State → ℕ
state_prev Exhausted = 0
state_prev (Ready side next prev) = prev

abbrev pub free_of : Option Pair → Option Side
free_of None = None
free_of (Some p) = free_side p.state

abbrev pub next_of : Option Pair → ℕ
next_of None = 0
next_of (Some p) = state_next p.state

abbrev pub prev_of : Option Pair → ℕ
prev_of None = 0
prev_of (Some p) = state_prev p.state

abbrev pub next_in : Slab Pair → ℕ → ℕ
next_in pairs key = next_of (get pairs key)

abbrev pub prev_in : Slab Pair → ℕ → ℕ
prev_in pairs key = prev_of (get pairs key)

-- there is a pair, and it is ready
abbrev pub IsOn : Slab Pair → ℕ → Type 0
IsOn pairs key = IsSome (free_of (get pairs key))

-- the ready pairs form one ring, and `first` is one of them, if there is one
pub record IsLinked (pairs : Slab Pair) (first : Option ℕ) : Type 0 where
  pub ring : IsRing (IsOn pairs) (next_in pairs) (prev_in pairs)
  pub first_on : IfSome first (IsOn pairs)
  pub first_none : IfNone first ((key : ℕ) → IsOn pairs key → ⊥)

-- only links change: the same halves are free, and contracts see the same pairs
pub record KeepsPairs (old new : Slab Pair) : Type 0 where
  pub free : (key : ℕ) → free_of (get new key) ≡ free_of (get old key)
  pub entries : (key : ℕ) → option_map entry_of (get new key) ≡ option_map entry_of (get old key)
  pub len : slab_len new ≡ slab_len old
  pub vacant_key : new.vacant_key ≡ old.vacant_key
  pub capacity : new.capacity ≡ old.capacity

-- only the next pair of one pair changes
pub record SetsNext (old new : Slab Pair) (key value : ℕ) : Type 0 where
  pub at : next_in new key ≡ value
  pub next_else : (other : ℕ) → other ≢ key → next_in new other ≡ next_in old other
  pub prev_same : (other : ℕ) → prev_in new other ≡ prev_in old other
  pub keeps : KeepsPairs old new

-- only the previous pair of one pair changes
pub record SetsPrev (old new : Slab Pair) (key value : ℕ) : Type 0 where
  pub at : prev_in new key ≡ value
  pub prev_else : (other : ℕ) → other ≢ key → prev_in new other ≡ prev_in old other
  pub next_same : (other : ℕ) → next_in new other ≡ next_in old other
  pub keeps : KeepsPairs old new

-- once this pair, or none, stands at the key and the others are unchanged, the ready pairs form a ring
abbrev pub IsLinkedWith : Slab Pair → ℕ → (Option Pair → Type 0) → Option ℕ → Type 0
IsLinkedWith pairs key Fits first =
    (later : Slab Pair) (slot : Option Pair) → Updates pairs later key slot → Fits slot → IsLinked later first

-- a pair of this state
abbrev pub IsOfState : State → Option Pair → Type 0
IsOfState state None = ⊥
IsOfState state (Some p) = p.state ≡ state

-- no pair, or an exhausted one
abbrev pub IsOff : Option Pair → Type 0
IsOff slot = free_of slot ≡ None

-- one pair becomes another that suits it, and nothing else changes
pub record SetsPair (old new : Slab Pair) (key : ℕ) (Suits : Pair → Pair → Type 0) : Type 0 where
  pub before : Pair
  pub was : get old key ≡ Some before
  pub after : Pair
  pub suits : Suits before after
  pub updates : Updates old new key (Some after)
  pub len : slab_len new ≡ slab_len old
  pub vacant_key : new.vacant_key ≡ old.vacant_key
  pub capacity : new.capacity ≡ old.capacity
