-- What writing and reading a block's bytes asks of the device, and how the bytes change.
use Rattle.std.specs.Prelude.{◌≡◌, ◌⊎◌, ℕ, ◌+◌, ◌<◌, ◌==◌, true, cond, List, [], ◌∷◌, ◌++◌, length, slice_get, None}
use Rattle.std.specs.Prelude.{Option, Result, Ok, Err}
use Rattle.gpu_alloc_types.specs.Device.{Object, Event, Range, Changes, IsWritten, IsCopied, IsPartlyCopied}
use Rattle.gpu_alloc_types.specs.Device.{IsOutside, IsFlushable}
use Rattle.gpu_alloc_types.specs.Device.Event.{Mapped, Unmapped, Flushed, Invalidated, BytesPut, BytesGot}
use Rattle.gpu_alloc_types.specs.Flags.{has_bit, host_visible}
use Rattle.gpu_alloc_types.specs.Properties.{Properties, props_at, are_non_coherent}
use Rattle.gpu_alloc_types.specs.declared.types.OutOfMemory.{OutOfMemory}
use Rattle.gpu_alloc_base.specs.Errors.{map_like_memory}
use Rattle.gpu_alloc_base.specs.declared.error.MapError.{MapError}
use Rattle.gpu_alloc_block.specs.Mapped.{refusal, IsMapRefused}
use Rattle.gpu_alloc_block.specs.Ranges.{rounded_range}
use Rattle.gpu_alloc_block.specs.State.{Block, is_shared}

-- What is asked.

-- between mapping a range and unmapping it, where the object is the block's own
abbrev pub around : Block → Range → List Event → List Event
around b r es = cond (is_shared b.kind) es (Mapped r (Ok tt) ∷ es ++ Unmapped b.object ∷ [])

-- only where the block's memory is non-coherent
abbrev pub where_non_coherent : Block → Event → List Event
where_non_coherent b e = cond (are_non_coherent b.props) (e ∷ []) []

-- only where there are bytes to move
abbrev pub where_some : ℕ → List Event → List Event
where_some len es = cond (len == 0) [] es

-- bytes are put, and their rounded range is flushed
abbrev pub putting : Block → ℕ → List ℕ → Result (Unit {0}) OutOfMemory → List Event
putting b offset bytes answer =
    BytesPut b.object (b.offset + offset) bytes
    ∷ where_non_coherent b (Flushed (rounded_range b offset (length bytes) ∷ []) answer)

-- their rounded range is invalidated, and bytes are got
abbrev pub getting : Block → ℕ → List ℕ → List Event
getting b offset bytes =
    where_non_coherent b (Invalidated (rounded_range b offset (length bytes) ∷ []) (Ok tt))
    ++ BytesGot b.object (b.offset + offset) bytes ∷ []

-- What a write asks.
abbrev pub AsksToWrite : Block → ℕ → List ℕ → List Event → Type 0
AsksToWrite b offset bytes es =
    (refusal b ≡ None)
    × (es ≡ where_some (length bytes) (around b (rounded_range b offset (length bytes)) (putting b offset bytes (Ok tt))))

-- What a read of these bytes asks.
abbrev pub AsksToRead : Block → ℕ → List ℕ → List Event → Type 0
AsksToRead b offset bytes es =
    (refusal b ≡ None)
    × (es ≡ where_some (length bytes) (around b (rounded_range b offset (length bytes)) (getting b offset bytes)))

-- The device refused the flush or the invalidate, for this cause, after the calls that `failing` names.
pub record IsCopyRefused (b : Block) (r : Range) (failing : OutOfMemory → List Event) (e : MapError) (es : List Event)
    : Type 0 where
  pub able : refusal b ≡ None
  pub non_coherent : are_non_coherent b.props ≡ true
  pub cause : OutOfMemory
  pub like : e ≡ map_like_memory cause
  pub asked : es ≡ around b r (failing cause)

-- what is asked until the flush or the invalidate is refused
abbrev pub flush_fails : Block → ℕ → List ℕ → OutOfMemory → List Event
flush_fails b offset bytes cause = putting b offset bytes (Err cause)

abbrev pub invalidate_fails : Range → OutOfMemory → List Event
invalidate_fails r cause = Invalidated (r ∷ []) (Err cause) ∷ []

-- What becomes of the bytes of the block's object. Nothing else of the object changes.

-- an object with other bytes, and otherwise unchanged
pub record HasOnlyOtherBytes (o new : Object) : Type 0 where
  pub same_type : new.memory_type ≡ o.memory_type
  pub same_size : new.size ≡ o.size
  pub same_mapping : new.mapped ≡ o.mapped

-- The host's bytes are the data, and the device's bytes of the rounded range are the host's.
pub record IsWrittenThrough (b : Block) (offset : ℕ) (bytes : List ℕ) (o new : Object) : Type 0 where
  pub rest : HasOnlyOtherBytes o new
  pub host : IsWritten (b.offset + offset) bytes o.host_bytes new.host_bytes
  pub device : IsCopied (rounded_range b offset (length bytes)).offset (rounded_range b offset (length bytes)).size new.host_bytes
      o.device_bytes new.device_bytes

-- The host's bytes are the data, and each of the device's bytes of the rounded range is its old value or the host's.
pub record IsPartlyWritten (b : Block) (offset : ℕ) (bytes : List ℕ) (o new : Object) : Type 0 where
  pub rest : HasOnlyOtherBytes o new
  pub host : IsWritten (b.offset + offset) bytes o.host_bytes new.host_bytes
  pub device : IsPartlyCopied (rounded_range b offset (length bytes)).offset (rounded_range b offset (length bytes)).size
      new.host_bytes o.device_bytes new.device_bytes

-- The host's bytes of the rounded range are the device's now, and the bytes that are read are the device's.
pub record IsReadThrough (b : Block) (offset : ℕ) (bytes : List ℕ) (o new : Object) : Type 0 where
  pub rest : HasOnlyOtherBytes o new
  pub device : new.device_bytes ≡ o.device_bytes
  pub host : IsCopied (rounded_range b offset (length bytes)).offset (rounded_range b offset (length bytes)).size o.device_bytes
      o.host_bytes new.host_bytes
  pub told : (k : ℕ) → k < length bytes → slice_get bytes k ≡ slice_get o.device_bytes (b.offset + offset + k)

-- Each of the host's bytes of the rounded range is its old value or the device's.
pub record IsPartlyRead (r : Range) (o new : Object) : Type 0 where
  pub rest : HasOnlyOtherBytes o new
  pub device : new.device_bytes ≡ o.device_bytes
  pub host : IsPartlyCopied r.offset r.size o.device_bytes o.host_bytes new.host_bytes

-- the block's object changes so where there are bytes to move; otherwise nothing does
pub record ChangesBytes (b : Block) (len : ℕ) (P : Object → Object → Type 0) (old new : ℕ → Option Object) : Type 0 where
  pub some : 0 < len → Changes P old b.object new
  pub none : len ≡ 0 → new ≡ old

-- How a refused write ends: a refused mapping keeps every byte; a refused flush leaves the data with the host.
abbrev pub EndsWrite : Block → ℕ → List ℕ → MapError → (old new : ℕ → Option Object) → List Event → Type 0
EndsWrite b offset bytes e old new es =
    (IsMapRefused b (rounded_range b offset (length bytes)) e es × (new ≡ old))
    ⊎ (IsCopyRefused b (rounded_range b offset (length bytes)) (flush_fails b offset bytes) e es
    × Changes (IsPartlyWritten b offset bytes) old b.object new)

-- How a refused read ends: a refused mapping keeps every byte; a refused invalidate keeps each byte of the device.
abbrev pub EndsRead : Block → (offset len : ℕ) → MapError → (old new : ℕ → Option Object) → List Event → Type 0
EndsRead b offset len e old new es =
    (IsMapRefused b (rounded_range b offset len) e es × (new ≡ old))
    ⊎ (IsCopyRefused b (rounded_range b offset len) (invalidate_fails (rounded_range b offset len)) e es
    × Changes (IsPartlyRead (rounded_range b offset len)) old b.object new)

-- However a write ends: of the host's bytes only the data's own range changes, of the device's only the rounded range.
pub record WritesWithin (b : Block) (offset len : ℕ) (o new : Object) : Type 0 where
  pub rest : HasOnlyOtherBytes o new
  pub host : (k : ℕ) → IsOutside (b.offset + offset) len k → slice_get new.host_bytes k ≡ slice_get o.host_bytes k
  pub device : (k : ℕ) → IsOutside (rounded_range b offset len).offset (rounded_range b offset len).size k
      → slice_get new.device_bytes k ≡ slice_get o.device_bytes k

-- However a read ends: of the host's bytes only the rounded range changes, and none of the device's do.
pub record ReadsWithin (b : Block) (offset len : ℕ) (o new : Object) : Type 0 where
  pub rest : HasOnlyOtherBytes o new
  pub host : (k : ℕ) → IsOutside (rounded_range b offset len).offset (rounded_range b offset len).size k
      → slice_get new.host_bytes k ≡ slice_get o.host_bytes k
  pub device : new.device_bytes ≡ o.device_bytes

-- While a call moves bytes: the object is host-visible, has the block's memory type, and has a range mapped that may be
-- flushed.
pub record IsOpenForBytes (p : Properties) (b : Block) (r : Range) (o : Object) : Type 0 where
  pub visible : has_bit b.props host_visible ≡ true
  pub props : b.props ≡ props_at p b.memory_type
  pub of_type : o.memory_type ≡ b.memory_type
  pub ready : IsFlushable p r o
