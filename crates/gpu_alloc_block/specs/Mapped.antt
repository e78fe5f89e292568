-- What mapping and unmapping a block asks of the device, and what becomes of its objects.
use Rattle.std.specs.Prelude.{◌≡◌, ◌⊎◌, ℕ, ◌+◌, Bool, true, false, not, ◌||◌, cond, List, [], ◌∷◌, Option, Some, None, is_some}
use Rattle.std.specs.Prelude.{Result, Ok, Err}
use Rattle.gpu_alloc_types.specs.Device.{Object, Event, Range, Changes, IsMappedOver, IsUnmapped}
use Rattle.gpu_alloc_types.specs.Device.Event.{Mapped, Unmapped}
use Rattle.gpu_alloc_types.specs.Flags.{has_bit, host_visible}
use Rattle.gpu_alloc_types.specs.declared.types.DeviceMapError.{DeviceMapError}
use Rattle.gpu_alloc_base.specs.Errors.{map_like_device}
use Rattle.gpu_alloc_base.specs.declared.error.MapError.{MapError}
use Rattle.gpu_alloc_base.specs.declared.error.MapError.TheVariants.{NonHostVisible, AlreadyMapped}
use Rattle.gpu_alloc_block.specs.Ranges.{rounded_range}
use Rattle.gpu_alloc_block.specs.State.{Block, is_shared}
use Rattle.gpu_alloc_block.specs.declared.block.Mapping.{Mapping}

-- why the block itself refuses: its memory is not host-visible, or it is mapped already
abbrev pub refusal : Block → Option MapError
refusal b = cond (has_bit b.props host_visible) (cond (is_some b.mapping) (Some AlreadyMapped) None) (Some NonHostVisible)

-- what is asked only where the object is the block's own
abbrev pub of_own : Block → List Event → List Event
of_own b es = cond (is_shared b.kind) [] es

-- The device refused to map this range of the block's own object, for this cause.
pub record IsDeviceRefusal (b : Block) (r : Range) (e : MapError) (es : List Event) : Type 0 where
  pub able : refusal b ≡ None
  pub own : is_shared b.kind ≡ false
  pub cause : DeviceMapError
  pub like : e ≡ map_like_device cause
  pub asked : es ≡ Mapped r (Err cause) ∷ []

-- A mapping is refused: by the block itself, without a call of the device, or by the device.
abbrev pub IsMapRefused : Block → Range → MapError → List Event → Type 0
IsMapRefused b r e es = ((refusal b ≡ Some e) × (es ≡ [])) ⊎ IsDeviceRefusal b r e es

-- What is asked to map some bytes of a block: its object's rounded range, where the object is the block's own.
abbrev pub AsksToMap : Block → (offset len : ℕ) → Result Mapping MapError → List Event → Type 0
AsksToMap b offset len (Ok m) es = (refusal b ≡ None) × (es ≡ of_own b (Mapped (rounded_range b offset len) (Ok tt) ∷ []))
AsksToMap b offset len (Err e) es = IsMapRefused b (rounded_range b offset len) e es

-- the mapping of some bytes of a block
abbrev pub mapping_of : Block → (offset len : ℕ) → Mapping
mapping_of b offset len = record { start = b.offset + offset; len = len }

-- a range of the object is mapped, unless the object is shared: that one was mapped whole when it was made
abbrev pub IsOpened : (shared : Bool) → Range → (ℕ → Option Object) → (ℕ → Option Object) → Type 0
IsOpened true r old new = new ≡ old
IsOpened false r old new = Changes (IsMappedOver r) old r.object new

-- how mapping changes the device's objects: a refusal changes nothing
abbrev pub ObjectsMapped : {T E : Type 0} → Block → Range → Result T E → (ℕ → Option Object) → (ℕ → Option Object) → Type 0
ObjectsMapped b r (Ok _) old new = IsOpened (is_shared b.kind) r old new
ObjectsMapped b r (Err e) old new = new ≡ old

-- what is asked to unmap a block: nothing where it is not mapped, or where the object is shared
abbrev pub unmapping : Block → List Event
unmapping b = cond (is_some b.mapping) (of_own b (Unmapped b.object ∷ [])) []

-- the object is unmapped, unless it is shared
abbrev pub IsClosed : (shared : Bool) → ℕ → (ℕ → Option Object) → (ℕ → Option Object) → Type 0
IsClosed true object old new = new ≡ old
IsClosed false object old new = Changes IsUnmapped old object new

-- how unmapping changes the device's objects
abbrev pub ObjectsUnmapped : Block → (ℕ → Option Object) → (ℕ → Option Object) → Type 0
ObjectsUnmapped b old new = IsClosed (is_shared b.kind || not (is_some b.mapping)) b.object old new
