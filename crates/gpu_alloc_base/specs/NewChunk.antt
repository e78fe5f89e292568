-- What a device is asked for a new shared chunk, and how that ends.
use Rattle.std.specs.Prelude.{◌≡◌, ◌≢◌, ◌⊎◌, ℕ, Bool, List, [], ◌∷◌, ◌++◌, Option, Some, None, Result, Ok, Err, IsTrue}
use Rattle.std.specs.Prelude.{cond}
use Rattle.std.specs.Result.{result_map_both}
use Rattle.gpu_alloc_types.specs.Device.{Object, Event, Range, put}
use Rattle.gpu_alloc_types.specs.Flags.{with_device_address}
use Rattle.gpu_alloc_types.specs.Properties.{Properties}
use Rattle.gpu_alloc_types.specs.Device.Event.{Allocated, Deallocated, Mapped}
use Rattle.gpu_alloc_types.specs.declared.types.OutOfMemory.TheVariants.{OutOfDeviceMemory as DeviceFull}
use Rattle.gpu_alloc_types.specs.declared.types.OutOfMemory.TheVariants.{OutOfHostMemory as HostFull}
use Rattle.gpu_alloc_types.specs.declared.types.DeviceMapError.{DeviceMapError}
use Rattle.gpu_alloc_types.specs.declared.types.DeviceMapError.TheVariants.{OutOfDeviceMemory as MapDeviceFull}
use Rattle.gpu_alloc_types.specs.declared.types.DeviceMapError.TheVariants.{OutOfHostMemory as MapHostFull, MapFailed}
use Rattle.gpu_alloc_base.specs.declared.error.AllocationError.{AllocationError}
use Rattle.gpu_alloc_base.specs.declared.error.AllocationError.TheVariants.{OutOfDeviceMemory, OutOfHostMemory}
use Rattle.gpu_alloc_base.specs.declared.error.AllocationError.TheVariants.{NoCompatibleMemoryTypes, TooManyObjects}

-- the flags of every question: the address flag exactly where the device has the feature
abbrev pub flags_of : Properties → ℕ
flags_of p = cond p.buffer_device_address with_device_address 0

-- what is asked for: some bytes of a memory type with these flags, and whether the object is then mapped whole
pub record ChunkQuestion : Type 0 where
  pub size : ℕ
  pub memory_type : ℕ
  pub flags : ℕ
  pub mapped : Bool

abbrev pub chunk_question : ℕ → ℕ → ℕ → Bool → ChunkQuestion
chunk_question size memory_type flags mapped =
    record { size = size; memory_type = memory_type; flags = flags; mapped = mapped }

-- the whole of a new object
abbrev pub whole_new_object : ChunkQuestion → ℕ → Range
whole_new_object q object = record { object = object; offset = 0; size = q.size }

-- the object was granted, and mapped whole where the question says so
abbrev pub made : ChunkQuestion → ℕ → List Event
made q object =
    Allocated q.size q.memory_type q.flags (Ok object) ∷ cond q.mapped (Mapped (whole_new_object q object) (Ok tt) ∷ []) []

-- the object was granted, its mapping refused, and the object released
abbrev pub unmapped : ChunkQuestion → ℕ → DeviceMapError → List Event
unmapped q object cause =
    Allocated q.size q.memory_type q.flags (Ok object)
    ∷ Mapped (whole_new_object q object) (Err cause) ∷ Deallocated object ∷ []

-- the device answered that it has no memory of its own for the object or for its mapping
abbrev pub LacksDeviceMemory : ChunkQuestion → List Event → Type 0
LacksDeviceMemory q es =
    (es ≡ Allocated q.size q.memory_type q.flags (Err DeviceFull) ∷ [])
    ⊎ (IsTrue q.mapped × ((object : ℕ) × (es ≡ unmapped q object MapDeviceFull)))

-- the device answered that host memory is exhausted, or could not map the object
abbrev pub LacksHostMemory : ChunkQuestion → List Event → Type 0
LacksHostMemory q es =
    (es ≡ Allocated q.size q.memory_type q.flags (Err HostFull) ∷ [])
    ⊎ (IsTrue q.mapped × ((object : ℕ) ×
    ((cause : DeviceMapError) × (cause ≢ MapDeviceFull) × (es ≡ unmapped q object cause))))

-- the object was made, and released because there was no host memory for a second handle of it
abbrev pub IsReleased : ChunkQuestion → List Event → Type 0
IsReleased q es = (object : ℕ) × (es ≡ made q object ++ Deallocated object ∷ [])

-- a refused mapping of a new chunk, as a refusal of the chunk
abbrev pub new_chunk_refusal : DeviceMapError → AllocationError
new_chunk_refusal MapDeviceFull = OutOfDeviceMemory
new_chunk_refusal MapHostFull = OutOfHostMemory
new_chunk_refusal MapFailed = OutOfHostMemory

-- the question with all that follows from it, by how it ends
abbrev pub AsksChunk : ChunkQuestion → List Event → Result ℕ AllocationError → Type 0
AsksChunk q es (Ok object) = es ≡ made q object
AsksChunk q es (Err OutOfDeviceMemory) = LacksDeviceMemory q es
AsksChunk q es (Err OutOfHostMemory) = LacksHostMemory q es
AsksChunk q es (Err NoCompatibleMemoryTypes) = ⊥
AsksChunk q es (Err TooManyObjects) = ⊥

-- the same with a second handle of the object, which may be refused once the object is made
abbrev pub AsksChunkTwice : ChunkQuestion → List Event → Result (ℕ × ℕ) AllocationError → Type 0
AsksChunkTwice q es (Ok handles) = (es ≡ made q handles.0) × (handles.1 ≡ handles.0)
AsksChunkTwice q es (Err OutOfDeviceMemory) = LacksDeviceMemory q es
AsksChunkTwice q es (Err OutOfHostMemory) = LacksHostMemory q es ⊎ IsReleased q es
AsksChunkTwice q es (Err NoCompatibleMemoryTypes) = ⊥
AsksChunkTwice q es (Err TooManyObjects) = ⊥

-- an answer with the name of its object, and with the names that its two handles give
abbrev pub told_object : {B E : Type 0} → (B → ℕ) → Result B E → Result ℕ E
told_object object answer = result_map_both object (λ e. e) answer

abbrev pub told_handles : {M E : Type 0} → (M → ℕ) → Result (M × M) E → Result (ℕ × ℕ) E
told_handles object answer = result_map_both (λ handles. (object handles.0, object handles.1)) (λ e. e) answer

-- a new object, mapped whole where the question says so
pub record IsChunkObject (q : ChunkQuestion) (o : Object) : Type 0 where
  pub of_type : o.memory_type ≡ q.memory_type
  pub of_size : o.size ≡ q.size
  pub mapped : o.mapped ≡ cond q.mapped (Some (0, q.size)) None

-- the device holds one object more
abbrev pub HasOneChunkMore : ChunkQuestion → ℕ → (ℕ → Option Object) → (ℕ → Option Object) → Type 0
HasOneChunkMore q object old new =
    (old object ≡ None) × ((o : Object) × IsChunkObject q o × (new ≡ put old object (Some o)))

-- the device holds one object more if the question was granted, and else what it held
abbrev pub ChunkAfter : ChunkQuestion → Result ℕ AllocationError → (ℕ → Option Object) → (ℕ → Option Object) → Type 0
ChunkAfter q (Ok object) old new = HasOneChunkMore q object old new
ChunkAfter q (Err e) old new = new ≡ old

abbrev pub ChunkAfterTwice : ChunkQuestion → Result (ℕ × ℕ) AllocationError → (ℕ → Option Object) → (ℕ → Option Object)
    → Type 0
ChunkAfterTwice q (Ok handles) old new = HasOneChunkMore q handles.0 old new
ChunkAfterTwice q (Err e) old new = new ≡ old
