-- Classes of lengths, the lists of keys by classes, and the bits of those that have one.
use Rattle.std.specs.Prelude.{◌≡◌, ◌≢◌, ◌↔◌, ◌⊎◌, ◌==◌, ℕ, zero, suc, ◌+◌, ◌-◌, ◌*◌, ◌/◌, ◌%◌, ◌^◌, ◌<◌, cond, nat_lt, List, [], ◌∷◌, Option, Some, length, slice_index_or}
use Rattle.std.specs.Int.{bit_at}
use Rattle.gpu_alloc_runs.specs.declared.classes.Classes.{Classes}
use Rattle.gpu_alloc_runs.specs.declared.classes.TheConstants.{CLASSES, WORDS}
use Rattle.gpu_alloc_runs.specs.declared.tile.TheConstants.{NONE}

-- how many grains of 256 bytes a class begins with: each with one more up to 64, and above in eight steps from one
-- power of two to the next
abbrev pub least_grains : ℕ → ℕ
least_grains class = cond (nat_lt class 64) class ((8 + class % 8) * 2 ^ (class / 8 - 5))

-- the last class up to this one that begins with no more grains
unfoldable pub last_class : ℕ → ℕ → ℕ
last_class zero grains = 0
last_class (suc class) grains = cond (nat_lt grains (least_grains (suc class))) (last_class class grains) (suc class)

-- the class of a length in bytes
unfoldable pub class_of_bytes : ℕ → ℕ
class_of_bytes bytes = last_class (CLASSES - 1) (bytes / 256)

-- Lists of keys.

-- the key is in the list
abbrev pub IsIn : List ℕ → ℕ → Type 0
IsIn [] key = ⊥
IsIn (k ∷ rest) key = (key ≡ k) ⊎ IsIn rest key

-- no key is there twice
abbrev pub IsOnce : List ℕ → Type 0
IsOnce [] = Unit {0}
IsOnce (k ∷ rest) = (IsIn rest k → ⊥) × IsOnce rest

-- the key below one, and below none the first of the list
abbrev pub below_in : ℕ → (ℕ → ℕ) → ℕ → ℕ
below_in first down key = cond (key == NONE) first (down key)

-- the key above one, and above the first none
abbrev pub above_in : ℕ → (ℕ → ℕ) → ℕ → ℕ
above_in first up key = cond (key == first) NONE (up key)

-- the keys follow one another below this one, to the last, and each has the key above it
abbrev pub IsChain : (ℕ → ℕ) → (ℕ → ℕ) → ℕ → List ℕ → Type 0
IsChain below up above [] = below above ≡ NONE
IsChain below up above (k ∷ rest) = (below above ≡ k) × ((up k ≡ above) × IsChain below up k rest)

-- These keys are linked from the first one on, once each, and are those of the class. Above the first one is the last.
pub record IsListOf (filed : ℕ → Option ℕ) (first : ℕ) (up down : ℕ → ℕ) (class : ℕ) (keys : List ℕ) : Type 0 where
  pub chain : IsChain (below_in first down) (above_in first up) NONE keys
  pub once : IsOnce keys
  pub keyed : IsIn keys NONE → ⊥
  pub exact : (key : ℕ) → IsIn keys key ↔ (filed key ≡ Some class)
  pub last : (key : ℕ) → IsIn keys key → down key ≡ NONE → up first ≡ key

-- each key stands in exactly the list of the class in which it is to be filed
abbrev pub AreFiled : (ℕ → Option ℕ) → (ℕ → ℕ) → (ℕ → ℕ) → (ℕ → ℕ) → Type 0
AreFiled filed first up down = (class : ℕ) → (keys : List ℕ) × IsListOf filed (first class) up down class keys

-- the same filing but for one key
abbrev pub filed_but : (ℕ → Option ℕ) → ℕ → Option ℕ → ℕ → Option ℕ
filed_but filed x class key = cond (key == x) class (filed key)

-- Which classes have a list.

-- the first key of a class
abbrev pub first_in : Classes → ℕ → ℕ
first_in classes class = slice_index_or classes.first class NONE

-- the bit of a class is set
abbrev pub IsMarked : Classes → ℕ → Type 0
IsMarked classes class = bit_at (slice_index_or classes.filled (class / 64) 0) (class % 64) ≡ 1

-- exactly the bits of the classes that have a first key are set
pub record AreMarked (classes : Classes) : Type 0 where
  pub firsts : length classes.first ≡ CLASSES
  pub words : length classes.filled ≡ WORDS
  pub set : (class : ℕ) → class < CLASSES → first_in classes class ≢ NONE → IsMarked classes class
  pub clear : (class : ℕ) → class < CLASSES → IsMarked classes class → first_in classes class ≢ NONE

-- one class gets another first key
pub record SetsFirst (old new : Classes) (class key : ℕ) : Type 0 where
  pub written : first_in new class ≡ key
  pub others : (c : ℕ) → c ≢ class → first_in new c ≡ first_in old c
