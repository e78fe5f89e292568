-- What contracts see of a `StagingPool`: what they see of the manager of its buffers.
use Rattle.std.specs.Prelude.{◌≡◌, ◌≢◌, ℕ, Option, Some}
use Rattle.gpu_alloc_types.specs.Device.{Object}
use Rattle.gpu_alloc_types.specs.Properties.{Properties}
use Rattle.gpu_alloc_block.specs.Contents.{HasSameBytes}
use Rattle.gpu_alloc_block.specs.InHand.{AreTwo}
use Rattle.gpu_alloc_block.specs.Kept.{ChangesKey}
use Rattle.gpu_alloc_block.specs.State.{Block}
use Rattle.gpu_clients.specs.Resources.{ManagerState, block_at}
pub use Rattle.gpu_clients.specs.Resources.{beside}

module _ {D : Type 0} where
  -- the buffer under a key
  abbrev pub buffer_at : ManagerState D → ℕ → Option Block
  buffer_at pool key = block_at pool key

  -- there is a buffer under the key, and it has the property
  abbrev pub OfBuffer : ManagerState D → ℕ → (Block → Type 0) → Type 0
  OfBuffer pool key P = (b : Block) × (buffer_at pool key ≡ Some b) × P b

  -- one key has this buffer now, or none, and every other key what it had
  abbrev pub SetsBuffer : (old new : ManagerState D) → ℕ → Option Block → Type 0
  SetsBuffer old new key buffer = ChangesKey (buffer_at old) (buffer_at new) key buffer

  -- each key has the buffer that it had
  abbrev pub SameBuffers : (old new : ManagerState D) → Type 0
  SameBuffers old new = (key : ℕ) → buffer_at new key ≡ buffer_at old key

  -- no two buffers share a byte
  abbrev pub AreBuffersApart : ManagerState D → Type 0
  AreBuffersApart pool =
      (j key : ℕ) (b c : Block) → buffer_at pool j ≡ Some b → buffer_at pool key ≡ Some c → j ≢ key → AreTwo b c

  module _ (offers : D → Properties) (objects : D → ℕ → Option Object) where
    -- What the device has apart from the pool's objects is unchanged. So is each byte of each buffer under these keys
    -- that was there and still is.
    pub record KeepsBuffers (old new : ManagerState D) (Key : ℕ → Type 0) : Type 0 where
      pub bytes : (key : ℕ) (b : Block) → Key key → buffer_at old key ≡ Some b → buffer_at new key ≡ Some b
          → HasSameBytes b (objects old.device) (objects new.device)
      pub beside : (name : ℕ) → beside objects new name ≡ beside objects old name
      pub properties : offers new.device ≡ offers old.device
