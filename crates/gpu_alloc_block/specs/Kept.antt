-- Blocks in hand, in a list by place, or in a slab or a map by key. What a call leaves of them, of their bytes, and of
-- what the caller itself has on the device.
use Rattle.std.specs.Prelude.{◌≡◌, ◌≢◌, ℕ, List, [], ◌∷◌, ◌++◌, slice_get, Option, Some, None, cond, is_some}
use Rattle.std.specs.FinMap as map
use Rattle.gpu_alloc_types.specs.Device.{Object}
use Rattle.gpu_alloc_types.specs.Properties.{Properties}
use Rattle.gpu_alloc_block.specs.Agreement.{BlockAgrees}
use Rattle.gpu_alloc_block.specs.Contents.{HasSameBytes}
use Rattle.gpu_alloc_block.specs.InHand.{AreTwo, AreOwned}
use Rattle.gpu_alloc_block.specs.State.{State, Block, IsOwned}

-- each of these agrees with the device
abbrev pub AreReady : Properties → (ℕ → Option Object) → List Block → Type 0
AreReady p objects [] = Unit {0}
AreReady p objects (b ∷ bs) = BlockAgrees b p objects × AreReady p objects bs

-- Each block that has a key is live here and agrees with the device, and no two share a byte.
pub record AreKept (s : State) (p : Properties) (objects : ℕ → Option Object) (at : ℕ → Option Block) : Type 0 where
  pub owned : (key : ℕ) (b : Block) → at key ≡ Some b → IsOwned s b
  pub ready : (key : ℕ) (b : Block) → at key ≡ Some b → BlockAgrees b p objects
  pub two : (j key : ℕ) (b c : Block) → at j ≡ Some b → at key ≡ Some c → j ≢ key → AreTwo b c

-- one key now has this block, or none, and every other key has what it had
pub record ChangesKey (at new : ℕ → Option Block) (key : ℕ) (slot : Option Block) : Type 0 where
  pub changed : new key ≡ slot
  pub others : (other : ℕ) → other ≢ key → new other ≡ at other

-- what the device has apart from the allocator's objects
unfoldable pub outside : State → (ℕ → Option Object) → ℕ → Option Object
outside s objects name = cond (is_some (map.get s.held name)) None (objects name)

-- that is unchanged
abbrev pub IsSameOutside : State → (ℕ → Option Object) → State → (ℕ → Option Object) → Type 0
IsSameOutside s old after new = (name : ℕ) → outside after new name ≡ outside s old name

-- What a block's call keeps, though it may leave the block with another mapping: each byte of every other block, and
-- what the device has apart from an allocator's objects. Blocks in hand stay so, with the block as it is now in its
-- place.
pub record KeepsInHand (b : Block) (p : Properties) (old : ℕ → Option Object) (now : Block) (q : Properties)
    (new : ℕ → Option Object) : Type 0 where
  pub bytes : (c : Block) → AreTwo b c → HasSameBytes c old new
  pub bytes_back : (c : Block) → AreTwo c b → HasSameBytes c old new
  pub outside : (s : State) → IsOwned s b → IsSameOutside s old s new
  pub ready : (s : State) (cs ds : List Block) → AreOwned s (cs ++ b ∷ ds) → AreReady p old (cs ++ b ∷ ds)
      → AreReady q new (cs ++ now ∷ ds)
  pub kept : (s : State) (at at_new : ℕ → Option Block) (key : ℕ) → AreKept s p old at → at key ≡ Some b
      → ChangesKey at at_new key (Some now) → AreKept s q new at_new

-- What an allocator's call keeps that takes no block.
pub record LeavesInHand (s : State) (p : Properties) (old : ℕ → Option Object) (after : State) (q : Properties)
    (new : ℕ → Option Object) : Type 0 where
  pub bytes : (b : Block) → IsOwned s b → HasSameBytes b old new
  pub outside : IsSameOutside s old after new
  pub ready : (bs : List Block) → AreOwned s bs → AreReady p old bs → AreReady q new bs
  pub kept : (at : ℕ → Option Block) → AreKept s p old at → AreKept after q new at

-- What a grant adds to the blocks in hand: a last one, or one under a key that had none.
pub record AddsInHand (s : State) (p : Properties) (old : ℕ → Option Object) (after : State) (q : Properties)
    (new : ℕ → Option Object) (b : Block) : Type 0 where
  pub ready : (bs : List Block) → AreOwned s bs → AreReady p old bs → AreReady q new (bs ++ b ∷ [])
  pub kept : (at at_new : ℕ → Option Block) (key : ℕ) → AreKept s p old at → at key ≡ None
      → ChangesKey at at_new key (Some b) → AreKept after q new at_new

-- What a return keeps: each byte of every block that stays owned, and what the device has apart from the allocator's
-- objects. It removes one of the blocks in hand.
pub record RemovesInHand (s : State) (p : Properties) (old : ℕ → Option Object) (b : Block) (after : State)
    (q : Properties) (new : ℕ → Option Object) : Type 0 where
  pub bytes : (c : Block) → IsOwned after c → HasSameBytes c old new
  pub outside : IsSameOutside s old after new
  pub first : (cs : List Block) → AreOwned s (b ∷ cs) → AreReady p old (b ∷ cs) → AreReady q new cs
  pub last : (cs : List Block) → AreOwned s (cs ++ b ∷ []) → AreReady p old (cs ++ b ∷ []) → AreReady q new cs
  pub any : (cs ds : List Block) → AreOwned s (cs ++ b ∷ ds) → AreReady p old (cs ++ b ∷ ds) → AreReady q new (cs ++ ds)
  pub kept : (at at_new : ℕ → Option Block) (key : ℕ) → AreKept s p old at → at key ≡ Some b
      → ChangesKey at at_new key None → AreKept after q new at_new

-- What is known of blocks in hand holds for the one at a place of their list: a list is a map from places.
pub record ToldByPlace : Type 0 where
  pub owned_at : (s : State) (bs : List Block) (i : ℕ) (b : Block) → AreOwned s bs → slice_get bs i ≡ Some b → IsOwned s b
  pub ready_at : (p : Properties) (objects : ℕ → Option Object) (bs : List Block) (i : ℕ) (b : Block)
      → AreReady p objects bs → slice_get bs i ≡ Some b → BlockAgrees b p objects
  pub two_at : (s : State) (bs : List Block) (i j : ℕ) (b c : Block) → AreOwned s bs → slice_get bs i ≡ Some b
      → slice_get bs j ≡ Some c → i ≢ j → AreTwo b c
  pub kept : (s : State) (p : Properties) (objects : ℕ → Option Object) (bs : List Block) → AreOwned s bs
      → AreReady p objects bs → AreKept s p objects (slice_get bs)
