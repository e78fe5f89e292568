-- The objects of the simulated device, and how calls change their bytes.
use Rattle.std.specs.Prelude.{◌≡◌, ℕ, ◌+◌, ◌≤◌, ◌==◌, ◌&&◌, ◌||◌, not, Bool, true, cond, List, [], ◌∷◌, length}
use Rattle.std.specs.Prelude.{replicate, Option, Some, None, IfSome, nat_eq, nat_le}
use Rattle.std.specs.Cmp.Lexicographic.{pointwise}
use Rattle.std.specs.FinMap as map
use Rattle.std.specs.FinMap.{FinMap}
use Rattle.std.specs.Ordering.{nat_cmp}
use Rattle.gpu_alloc_types.specs.Properties.{Properties, is_host_visible, is_coherent}
use Rattle.gpu_alloc_types.specs.Device.{Object, Range, IsWellFormed}
use Rattle.gpu_sim.specs.Bytes.{bytes_written, size_of_part, with_range}
use Rattle.gpu_sim.specs.declared.sim.bytes.Direction.{Direction}
use Rattle.gpu_sim.specs.declared.sim.bytes.Direction.TheVariants.{ToDevice, ToHost}
use Rattle.gpu_sim.specs.declared.sim.bytes.Part.{Part}
use Rattle.gpu_sim.specs.declared.sim.object.MappedRange.{MappedRange}

abbrev pub offset_and_size : MappedRange → ℕ × ℕ
offset_and_size range = (range.offset, range.size)

-- as many bytes as the object is long if it is host-visible, and none otherwise
abbrev pub new_bytes : Properties → (size memory_type byte : ℕ) → List ℕ
new_bytes p size t byte = cond (is_host_visible p t) (replicate size byte) []

-- A new object. The host's bytes start as 00 in coherent memory and as ee in other memory, so that a missing flush or
-- invalidate shows. The device's start as 00.
abbrev pub new_object : Properties → (size memory_type : ℕ) → Object
new_object p size t = record {
  memory_type = t;
  size = size;
  mapped = None;
  host_bytes = new_bytes p size t (cond (is_coherent p t) 0 238);
  device_bytes = new_bytes p size t 0;
}

-- the object, with that range mapped or none
abbrev pub mapped_as : Option (ℕ × ℕ) → Object → Object
mapped_as range o = record o { mapped = range }

-- the object, once bytes of a range were copied
abbrev pub copied : Direction → (offset size : ℕ) → Object → Object
copied ToDevice offset size o = record o { device_bytes = with_range offset size o.host_bytes o.device_bytes }
copied ToHost offset size o = record o { host_bytes = with_range offset size o.device_bytes o.host_bytes }

-- the object, once the host wrote bytes: in coherent memory the device sees them at once
abbrev pub put_by_host : Properties → ℕ → List ℕ → Object → Object
put_by_host p offset bytes o = record o {
  host_bytes = bytes_written offset bytes o.host_bytes;
  device_bytes = cond (is_coherent p o.memory_type) (bytes_written offset bytes o.device_bytes) o.device_bytes;
}

-- the object, once the device wrote bytes: in coherent memory the host sees them at once
abbrev pub put_by_device : Properties → ℕ → List ℕ → Object → Object
put_by_device p offset bytes o = record o {
  host_bytes = cond (is_coherent p o.memory_type) (bytes_written offset bytes o.host_bytes) o.host_bytes;
  device_bytes = bytes_written offset bytes o.device_bytes;
}

-- a range of bytes that the object has, for the host and for the device
pub record HasRange (offset size : ℕ) (o : Object) : Type 0 where
  pub host : offset + size ≤ length o.host_bytes
  pub device : offset + size ≤ length o.device_bytes

-- the bytes that are to be mapped, if any
abbrev pub HasBytes : Option (ℕ × ℕ) → Object → Type 0
HasBytes None o = Unit {0}
HasBytes (Some r) o = HasRange r.0 r.1 o

-- the object of that name, which has this property, changes so, and no other
abbrev pub ChangesAt : (Object → Type 0) → (Object → Object) → FinMap nat_cmp Object → ℕ → FinMap nat_cmp Object
    → Type 0
ChangesAt P change old name new =
    (o : Object) × (map.get old name ≡ Some o) × P o × (new ≡ map.insert old name (change o))

-- a part of each range is copied in turn, in the objects as the one before it left them
abbrev pub CopiesEach : Direction → Part → List Range → FinMap nat_cmp Object → FinMap nat_cmp Object → Type 0
CopiesEach way part [] old new = new ≡ old
CopiesEach way part (r ∷ rs) old new =
    (mid : FinMap nat_cmp Object)
    × ChangesAt (HasRange r.offset r.size) (copied way r.offset (size_of_part part r.size)) old r.object mid
    × CopiesEach way part rs mid new

-- What is known of each object that is held.

-- it has the bytes that its type and size call for, and its mapped range has bytes
pub record IsWhole (p : Properties) (o : Object) : Type 0 where
  pub well_formed : IsWellFormed p o
  pub mapped_bytes : IfSome o.mapped (λ r. r.0 + r.1 ≤ length o.host_bytes)

abbrev pub AreWhole : Properties → FinMap nat_cmp Object → Type 0
AreWhole p objects = (name : ℕ) → IfSome (map.get objects name) (IsWhole p)

-- In the form in which every device shows its objects.

abbrev pub ends_within : Option (ℕ × ℕ) → ℕ → Bool
ends_within None size = true
ends_within (Some r) size = nat_le (r.0 + r.1) size

-- the test of `IsWellFormed`
unfoldable pub is_well_formed : Properties → Object → Bool
is_well_formed p o =
    let size = cond (is_host_visible p o.memory_type) o.size 0 in
    (length o.host_bytes == size) && (length o.device_bytes == size)
    && (not (is_coherent p o.memory_type) || pointwise nat_eq o.host_bytes o.device_bytes)
    && ends_within o.mapped o.size

abbrev pub shown_if : (Object → Bool) → Option Object → Option Object
shown_if test None = None
shown_if test (Some o) = cond (test o) (Some o) None

-- The objects by name. Each that a `Sim` holds is whole. (Devices show only well-formed objects, so a state that no
-- `Sim` has shows no others.)
abbrev pub shown : Properties → FinMap nat_cmp Object → ℕ → Option Object
shown p objects name = shown_if (is_well_formed p) (map.get objects name)
