-- The objects that a device holds, which calls it accepts, and what each call does to them.
use Rattle.std.specs.Prelude.{◌≡◌, ◌⊎◌, ℕ, ◌+◌, ◌%◌, ◌<◌, ◌≤◌, ◌==◌, Bool, true, false, cond, List, [], ◌∷◌, length}
use Rattle.std.specs.Prelude.{slice_get, Option, Some, None, Result, Ok, Err, IsTrue, IfSome, IsSome, All}
use Rattle.gpu_alloc_types.specs.Flags.{has_bit, with_device_address}
use Rattle.gpu_alloc_types.specs.Properties.{Properties, is_host_visible, is_coherent, atom_of}
use Rattle.gpu_alloc_types.specs.declared.types.MappedMemoryRange.{MappedMemoryRange}
use Rattle.gpu_alloc_types.specs.declared.types.OutOfMemory.{OutOfMemory}
use Rattle.gpu_alloc_types.specs.declared.types.DeviceMapError.{DeviceMapError}

-- a memory object. Its mapped range is an offset and a size; the host and the device each see its bytes
pub record Object : Type 0 where
  pub memory_type : ℕ
  pub size : ℕ
  pub mapped : Option (ℕ × ℕ)
  pub host_bytes : List ℕ
  pub device_bytes : List ℕ

-- a range of an object
pub record Range : Type 0 where
  pub object : ℕ
  pub offset : ℕ
  pub size : ℕ

-- a call of a device, with its arguments and its answer. Objects stand as their names, flags as their numbers
pub data Event : Type 0 where
  Allocated : (size memory_type flags : ℕ) → Result ℕ OutOfMemory → Event
  Deallocated : (object : ℕ) → Event
  Mapped : Range → Result (Unit {0}) DeviceMapError → Event
  Unmapped : (object : ℕ) → Event
  Flushed : List Range → Result (Unit {0}) OutOfMemory → Event
  Invalidated : List Range → Result (Unit {0}) OutOfMemory → Event
  BytesPut : (object offset : ℕ) → List ℕ → Event
  BytesGot : (object offset : ℕ) → List ℕ → Event

-- the objects, with this one held under a name, or with nothing held there
unfoldable pub put : (ℕ → Option Object) → ℕ → Option Object → ℕ → Option Object
put objects name object other = cond (other == name) object (objects other)

-- an object of that name is held
abbrev pub IsHeld : (ℕ → Option Object) → ℕ → Type 0
IsHeld objects name = IsSome (objects name)

-- an object of that name is held, and has the property
abbrev pub HeldWith : (ℕ → Option Object) → ℕ → (Object → Type 0) → Type 0
HeldWith objects name P = (o : Object) × (objects name ≡ Some o) × P o

-- A host-visible object has both lists of bytes, each of the object's size. In a coherent one the two are equal.
pub record IsWellFormed (p : Properties) (o : Object) : Type 0 where
  pub host : length o.host_bytes ≡ cond (is_host_visible p o.memory_type) o.size 0
  pub device : length o.device_bytes ≡ cond (is_host_visible p o.memory_type) o.size 0
  pub coherent : IsTrue (is_coherent p o.memory_type) → o.host_bytes ≡ o.device_bytes
  pub range : IfSome o.mapped (λ r. r.0 + r.1 ≤ o.size)

-- Which calls are accepted.

-- a valid allocation: some bytes of a known type, with the address flag only where the device has the feature
pub record IsAllocatable (p : Properties) (size memory_type flags : ℕ) : Type 0 where
  pub nonempty : 0 < size
  pub known : memory_type < length p.memory_types
  pub address : IsTrue (has_bit flags with_device_address) → IsTrue p.buffer_device_address

-- a range of an object that may be mapped: some bytes inside an unmapped, host-visible object
pub record IsMappable (p : Properties) (offset size : ℕ) (o : Object) : Type 0 where
  pub visible : IsTrue (is_host_visible p o.memory_type)
  pub unmapped : o.mapped ≡ None
  pub nonempty : 0 < size
  pub inside : offset + size ≤ o.size

-- some range of the object is mapped
abbrev pub IsMapped : Object → Type 0
IsMapped o = IsSome o.mapped

-- some bytes of an object's mapped range
pub record IsInMapped (offset size : ℕ) (o : Object) : Type 0 where
  pub nonempty : 0 < size
  pub inside : (m : ℕ × ℕ) × (o.mapped ≡ Some m) × (m.0 ≤ offset) × (offset + size ≤ m.0 + m.1)

-- some bytes of an object's mapped range, which start on the atom and end on it or at the object's end
pub record IsFlushable (p : Properties) (r : Range) (o : Object) : Type 0 where
  pub mapped : IsInMapped r.offset r.size o
  pub start : r.offset % atom_of p o.memory_type ≡ 0
  pub finish : ((r.offset + r.size) % atom_of p o.memory_type ≡ 0) ⊎ (r.offset + r.size ≡ o.size)

-- each range is flushable in an object that is held
abbrev pub AreFlushable : Properties → (ℕ → Option Object) → List Range → Type 0
AreFlushable p objects rs = All (λ r. HeldWith objects r.object (IsFlushable p r)) rs

-- the range that a call names, with its object's name in place of the handle
abbrev pub range_of : {M : Type 0} → (M → ℕ) → MappedMemoryRange M → Range
range_of name r = record { object = name r.memory.now; offset = r.offset; size = r.size }

-- What the calls do.

-- the byte lies outside the range
abbrev pub IsOutside : ℕ → ℕ → ℕ → Type 0
IsOutside offset size k = (k < offset) ⊎ (offset + size ≤ k)

-- `to`, with a range of its bytes taken from `from`
pub record IsCopied (offset size : ℕ) (from to new : List ℕ) : Type 0 where
  pub outside : (k : ℕ) → IsOutside offset size k → slice_get new k ≡ slice_get to k
  pub inside : (k : ℕ) → offset ≤ k → k < offset + size → slice_get new k ≡ slice_get from k

-- `to`, where each byte of a range may be that of `from`
pub record IsPartlyCopied (offset size : ℕ) (from to new : List ℕ) : Type 0 where
  pub outside : (k : ℕ) → IsOutside offset size k → slice_get new k ≡ slice_get to k
  pub inside : (k : ℕ) → (slice_get new k ≡ slice_get to k) ⊎ (slice_get new k ≡ slice_get from k)

-- `to`, with `bytes` written from an offset on
pub record IsWritten (offset : ℕ) (bytes to new : List ℕ) : Type 0 where
  pub outside : (k : ℕ) → IsOutside offset (length bytes) k → slice_get new k ≡ slice_get to k
  pub inside : (k : ℕ) → k < length bytes → slice_get new (offset + k) ≡ slice_get bytes k

-- a flush or an invalidate copies its whole range; a refused one copies any part of it
abbrev pub copies : {E : Type 0} → Result (Unit {0}) E → ℕ → ℕ → List ℕ → List ℕ → List ℕ → Type 0
copies (Ok _) offset size from to new = IsCopied offset size from to new
copies (Err _) offset size from to new = IsPartlyCopied offset size from to new

-- one object changes so, and no other
abbrev pub Changes : (Object → Object → Type 0) → (ℕ → Option Object) → ℕ → (ℕ → Option Object) → Type 0
Changes P old name new = (o : Object) × (old name ≡ Some o) × ((o' : Object) × P o o' × (new ≡ put old name (Some o')))

abbrev pub IsMappedOver : Range → Object → Object → Type 0
IsMappedOver r o new = new ≡ record o { mapped = Some (r.offset, r.size) }

abbrev pub IsUnmapped : Object → Object → Type 0
IsUnmapped o new = new ≡ record o { mapped = None }

abbrev pub IsFlushed : {E : Type 0} → Result (Unit {0}) E → Range → Object → Object → Type 0
IsFlushed answer r o new =
    (b : List ℕ) × copies answer r.offset r.size o.host_bytes o.device_bytes b × (new ≡ record o { device_bytes = b })

abbrev pub IsInvalidated : {E : Type 0} → Result (Unit {0}) E → Range → Object → Object → Type 0
IsInvalidated answer r o new =
    (b : List ℕ) × copies answer r.offset r.size o.device_bytes o.host_bytes b × (new ≡ record o { host_bytes = b })

-- bytes written to a coherent object are there for the device at once
abbrev pub IsPutDevice : Bool → ℕ → List ℕ → List ℕ → List ℕ → Type 0
IsPutDevice true offset bytes to new = IsWritten offset bytes to new
IsPutDevice false offset bytes to new = new ≡ to

abbrev pub IsPut : Properties → ℕ → List ℕ → Object → Object → Type 0
IsPut p offset bytes o new =
    (host device : List ℕ) × IsWritten offset bytes o.host_bytes host
    × IsPutDevice (is_coherent p o.memory_type) offset bytes o.device_bytes device
    × (new ≡ record o { host_bytes = host; device_bytes = device })

-- each range in turn, from the objects as the one before it left them
abbrev pub InTurn : (Range → Object → Object → Type 0) → List Range → (ℕ → Option Object) → (ℕ → Option Object) → Type 0
InTurn P [] old new = new ≡ old
InTurn P (r ∷ rs) old new = (mid : ℕ → Option Object) × Changes (P r) old r.object mid × InTurn P rs mid new

-- a new object, whose bytes are unspecified
pub record IsFresh (size memory_type : ℕ) (o : Object) : Type 0 where
  pub of_type : o.memory_type ≡ memory_type
  pub of_size : o.size ≡ size
  pub unmapped : o.mapped ≡ None

-- What each call with its answer does to the objects. An object that it does not name is unchanged.
abbrev pub Row : Properties → (ℕ → Option Object) → Event → (ℕ → Option Object) → Type 0
Row p old (Allocated size t flags (Ok name)) new =
    (old name ≡ None) × ((o : Object) × IsFresh size t o × (new ≡ put old name (Some o)))
Row p old (Allocated size t flags (Err e)) new = new ≡ old
Row p old (Deallocated name) new = new ≡ put old name None
Row p old (Mapped r (Ok _)) new = Changes (IsMappedOver r) old r.object new
Row p old (Mapped r (Err e)) new = new ≡ old
Row p old (Unmapped name) new = Changes IsUnmapped old name new
Row p old (Flushed rs answer) new = InTurn (IsFlushed answer) rs old new
Row p old (Invalidated rs answer) new = InTurn (IsInvalidated answer) rs old new
Row p old (BytesPut name offset bytes) new = Changes (IsPut p offset bytes) old name new
Row p old (BytesGot name offset bytes) new =
    (new ≡ old)
    × HeldWith old name (λ o. (k : ℕ) → k < length bytes → slice_get bytes k ≡ slice_get o.host_bytes (offset + k))

-- What a device was asked between two of its states: steps, each from where the one before it ended.
abbrev pub Chain : {D : Type 0} → (D → Event → D → Type 0) → D → List Event → D → Type 0
Chain {D} step old [] new = new ≡ old
Chain {D} step old (e ∷ es) new = (mid : D) × step old e mid × Chain step mid es new

-- The device was asked such questions, and so came from one state to the other.
abbrev pub Asked : {D : Type 0} → (D → Event → D → Type 0) → D → D → (List Event → Type 0) → Type 0
Asked step old new P = (es : List Event) × Chain step old es new × P es
