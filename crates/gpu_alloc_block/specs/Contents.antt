-- The bytes of a block, for the host and for the device, and when they are unchanged.
use Rattle.std.specs.Prelude.{◌≡◌, ℕ, ◌+◌, ◌<◌, ◌≤◌, List, length, slice_get, Option, Some, None}
use Rattle.gpu_alloc_types.specs.Device.{Object}
use Rattle.gpu_alloc_block.specs.State.{Block}

-- a byte of an object as the host and as the device see it, or none
abbrev pub host_at : Option Object → ℕ → Option ℕ
host_at None k = None
host_at (Some o) k = slice_get o.host_bytes k

abbrev pub device_at : Option Object → ℕ → Option ℕ
device_at None k = None
device_at (Some o) k = slice_get o.device_bytes k

-- the byte is unchanged, for both
abbrev pub AreSame : (old new : Option Object) → ℕ → Type 0
AreSame old new k = (host_at new k ≡ host_at old k) × (device_at new k ≡ device_at old k)

-- Each byte of the block is unchanged, for host and device.
unfoldable pub HasSameBytes : Block → (old new : ℕ → Option Object) → Type 0
HasSameBytes b old new = (k : ℕ) → b.offset ≤ k → k < b.offset + b.size → AreSame (old b.object) (new b.object) k

-- Each byte of the block's object is unchanged for the device.
unfoldable pub HasSameDeviceBytes : Block → (old new : ℕ → Option Object) → Type 0
HasSameDeviceBytes b old new = (k : ℕ) → device_at (new b.object) k ≡ device_at (old b.object) k

-- The device has these bytes in the block, the first of them at this offset from the block's start.
unfoldable pub Stores : Block → (offset : ℕ) → List ℕ → (ℕ → Option Object) → Type 0
Stores b offset bytes objects =
    (k : ℕ) → k < length bytes → device_at (objects b.object) (b.offset + offset + k) ≡ slice_get bytes k

-- Unchanged bytes stay so from call to call, and the device still has of them what it had.
pub record BytesStay : Type 0 where
  pub none : (b : Block) (objects : ℕ → Option Object) → HasSameBytes b objects objects
  pub twice : (b : Block) (old mid new : ℕ → Option Object) → HasSameBytes b old mid → HasSameBytes b mid new
      → HasSameBytes b old new
  pub stored : (b : Block) (offset : ℕ) (bytes : List ℕ) (old new : ℕ → Option Object) → offset + length bytes ≤ b.size
      → Stores b offset bytes old → HasSameBytes b old new → Stores b offset bytes new
  pub device : (b : Block) (offset : ℕ) (bytes : List ℕ) (old new : ℕ → Option Object) → Stores b offset bytes old
      → HasSameDeviceBytes b old new → Stores b offset bytes new
