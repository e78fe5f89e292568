-- Blocks in hand under the caller's own keys, as a map's list of pairs has them.
use Rattle.std.specs.Prelude.{◌≡◌, ℕ, List, [], ◌∷◌, ◌++◌, slice_get, Option, Some, None, cond, nat_eq}
use Rattle.std.specs.List.{IsDistinct}
use Rattle.std.specs.Map.{keys_of, lookup}
use Rattle.gpu_alloc_types.specs.Device.{Object}
use Rattle.gpu_alloc_types.specs.Properties.{Properties}
use Rattle.gpu_alloc_block.specs.Kept.{AreKept, AddsInHand, RemovesInHand, KeepsInHand}
use Rattle.gpu_alloc_block.specs.State.{State, Block}

-- the block under a key
abbrev pub under : List (ℕ × Block) → ℕ → Option Block
under entries key = lookup (nat_eq key) entries

-- one key now has this block, or none, and every other key has what it had: a map's `Updates`
abbrev pub IsSetUnder : List (ℕ × Block) → ℕ → Option Block → List (ℕ × Block) → Type 0
IsSetUnder entries key slot new = (other : ℕ) → under new other ≡ cond (nat_eq key other) slot (under entries other)

-- What a map of blocks keeps as they come and go.
pub record ComeAndGoUnderKeys : Type 0 where
  -- a granted block is added, under a key that had none
  pub comes : (s after : State) (p q : Properties) (old new : ℕ → Option Object) (entries more : List (ℕ × Block))
      (key : ℕ) (b : Block) → AreKept s p old (under entries) → AddsInHand s p old after q new b
      → under entries key ≡ None → IsSetUnder entries key (Some b) more → AreKept after q new (under more)
  -- a returned block is removed
  pub goes : (s after : State) (p q : Properties) (old new : ℕ → Option Object) (entries fewer : List (ℕ × Block))
      (key : ℕ) (b : Block) → AreKept s p old (under entries) → RemovesInHand s p old b after q new
      → under entries key ≡ Some b → IsSetUnder entries key None fewer → AreKept after q new (under fewer)
  -- a call of a block may have changed its mapping
  pub changes : (s : State) (p q : Properties) (old new : ℕ → Option Object) (entries changed : List (ℕ × Block))
      (key : ℕ) (b now : Block) → AreKept s p old (under entries) → KeepsInHand b p old now q new
      → under entries key ≡ Some b → IsSetUnder entries key (Some now) changed → AreKept s q new (under changed)
  -- the pairs stand in another order, or differ in any way that finds the same blocks
  pub same : (s : State) (p : Properties) (objects : ℕ → Option Object) (at new : ℕ → Option Block)
      → AreKept s p objects at → ((key : ℕ) → new key ≡ at key) → AreKept s p objects new
  -- no block at all
  pub none : (s : State) (p : Properties) (objects : ℕ → Option Object) → AreKept s p objects (under [])
  -- the pair at a place of the list is found by its key, and so is the last one
  pub at_place : (entries : List (ℕ × Block)) (i key : ℕ) (b : Block) → IsDistinct nat_eq (keys_of entries)
      → slice_get entries i ≡ Some (key, b) → under entries key ≡ Some b
  pub at_end : (entries fewer : List (ℕ × Block)) (key : ℕ) (b : Block) → entries ≡ fewer ++ (key, b) ∷ []
      → under fewer key ≡ None → under entries key ≡ Some b
