-- What calls keep of a list of blocks in hand.
use Rattle.std.specs.Prelude.{◌≡◌, ℕ, List, slice_get, Option, Some}
use Rattle.gpu_alloc_types.specs.Device.{Object}
use Rattle.gpu_alloc_block.specs.Contents.{HasSameBytes}
use Rattle.gpu_alloc_block.specs.Kept.{IsSameOutside}
use Rattle.gpu_alloc_block.specs.State.{State, Block}

-- What was given to the allocator, what the device has apart from its objects, and each byte of these blocks.
pub record LeavesList (s : State) (old : ℕ → Option Object) (after : State) (new : ℕ → Option Object) (bs : List Block) : Type 0 where
  pub properties : after.properties ≡ s.properties
  pub outside : IsSameOutside s old after new
  pub bytes : (i : ℕ) (b : Block) → slice_get bs i ≡ Some b → HasSameBytes b old new
