-- The simulated device, and what its calls do.
use Rattle.std.specs.Prelude.{◌≡◌, ℕ, ◌+◌, ◌-◌, ◌^◌, ◌<◌, ◌≤◌, min, List, [], ◌∷◌, length, take, drop, Option}
use Rattle.std.specs.Prelude.{Some, None, option_map, IsTrue, Result, Ok, Err}
use Rattle.std.specs.FinMap as map
use Rattle.std.specs.FinMap.{FinMap}
use Rattle.std.specs.Ordering.{nat_cmp}
use Rattle.gpu_alloc_types.specs.Flags.{allocation_bits}
use Rattle.gpu_alloc_types.specs.Properties.{Properties, is_host_visible}
use Rattle.gpu_alloc_types.specs.Device.{Object, Event, Range, HeldWith}
use Rattle.gpu_alloc_types.specs.Device.Event.{Allocated, Deallocated, Mapped, Unmapped, Flushed, Invalidated, BytesPut}
use Rattle.gpu_alloc_types.specs.Device.Event.{BytesGot}
use Rattle.gpu_alloc_types.specs.declared.allocation_flags.AllocationFlags.{AllocationFlags}
use Rattle.gpu_alloc_types.specs.declared.types.DeviceMapError.{DeviceMapError}
use Rattle.gpu_alloc_types.specs.declared.types.OutOfMemory.{OutOfMemory}
use Rattle.gpu_alloc_types.specs.declared.types.OutOfMemory.TheVariants.{OutOfHostMemory}
use Rattle.gpu_sim.specs.Objects.{ChangesAt, CopiesEach, HasBytes, HasRange, AreWhole, new_object, mapped_as}
use Rattle.gpu_sim.specs.Objects.{put_by_host, put_by_device, shown}
use Rattle.gpu_sim.specs.declared.sim.bytes.Direction.{Direction}
use Rattle.gpu_sim.specs.declared.sim.bytes.Direction.TheVariants.{ToDevice, ToHost}
use Rattle.gpu_sim.specs.declared.sim.bytes.Part.TheVariants.{Whole, FirstHalf}
use Rattle.gpu_sim.specs.declared.sim.question.ByKind.{ByKind}
use Rattle.gpu_sim.specs.declared.sim.question.Cause.{Cause}
use Rattle.gpu_sim.specs.declared.sim.question.Question.{Question}
use Rattle.gpu_sim.specs.declared.sim.question.Question.TheVariants.{Allocate, Map, Flush, Invalidate}
use Rattle.gpu_sim.specs.Question.{at, with_at, refusal_of, map_refusal_of}

-- What it offers, the planned refusals by the number of the question, and how often each kind was asked. The size, type
-- and flags of the latest question to allocate, and the latest range of a map, a flush or an invalidate. The latest
-- name that was used, and the objects by name.
pub record SimState : Type 0 where
  pub properties : Properties
  pub plans : ByKind (FinMap nat_cmp Cause)
  pub asked : ByKind ℕ
  pub last_allocation : Option (ℕ × (ℕ × ℕ))
  pub last_range : Option Range
  pub last_name : ℕ
  pub objects : FinMap nat_cmp Object

abbrev pub as_numbers : ℕ × ℕ × AllocationFlags → ℕ × (ℕ × ℕ)
as_numbers asked = (asked.0, (asked.1, allocation_bits asked.2))

abbrev pub as_range : ℕ × ℕ × ℕ → Range
as_range asked = record { object = asked.0; offset = asked.1; size = asked.2 }

-- no object has a name above the latest
abbrev pub IsNamedUpTo : ℕ → FinMap nat_cmp Object → Type 0
IsNamedUpTo last objects = (name : ℕ) → last < name → map.get objects name ≡ None

-- what holds of every simulated device
pub record IsSoundSim (last : ℕ) (p : Properties) (objects : FinMap nat_cmp Object) : Type 0 where
  pub named : IsNamedUpTo last objects
  pub whole : AreWhole p objects

-- a device that was asked nothing and has nothing planned
abbrev pub fresh : Properties → SimState
fresh p = record {
  properties = p;
  plans = record { allocate = map.empty; map = map.empty; flush = map.empty; invalidate = map.empty };
  asked = record { allocate = 0; map = 0; flush = 0; invalidate = 0 };
  last_allocation = None;
  last_range = None;
  last_name = 0;
  objects = map.empty;
}

-- the cause that is planned for the latest question of a kind
abbrev pub cause_now : SimState → Question → Option Cause
cause_now s kind = map.get (at s.plans kind) (at s.asked kind)

-- one more, up to the greatest count
abbrev pub counted : ℕ → ℕ
counted n = min (n + 1) (2 ^ 64 - 1)

-- the device, once it was asked to allocate and before it answers
abbrev pub asked_to_allocate : SimState → ℕ → ℕ → ℕ → SimState
asked_to_allocate s size memory_type flags =
    record s {
      asked = with_at s.asked Allocate (counted s.asked.allocate);
      last_allocation = Some (size, (memory_type, flags));
    }

-- the device, once it was asked to map and before it answers
abbrev pub asked_to_map : SimState → Range → SimState
asked_to_map s range = record s { asked = with_at s.asked Map (counted s.asked.map); last_range = Some range }

-- the last of some ranges, or the earlier one where there is none
abbrev pub latest : Option Range → List Range → Option Range
latest told [] = told
latest told (r ∷ rs) = latest (Some r) rs

-- the device, once it was asked to flush or to invalidate ranges and before it answers
abbrev pub asked_to_copy : SimState → Question → List Range → SimState
asked_to_copy s kind ranges =
    record s { asked = with_at s.asked kind (counted (at s.asked kind)); last_range = latest s.last_range ranges }

-- an object is made under the next name, which none has
pub record IsMade (old : SimState) (name : ℕ) (object : Object) (new : SimState) : Type 0 where
  pub next : name ≡ old.last_name + 1
  pub free : map.get old.objects name ≡ None
  pub held : new ≡ record old { last_name = name; objects = map.insert old.objects name object }

-- a refusal for the planned cause, or, where nothing is planned, for want of host memory or of names
abbrev pub IsRefusal : Option Cause → OutOfMemory → Type 0
IsRefusal (Some cause) error = error ≡ refusal_of cause
IsRefusal None error = error ≡ OutOfHostMemory

-- the answer to a counted question to allocate
abbrev pub AnswersAllocation : SimState → (size memory_type : ℕ) → Result ℕ OutOfMemory → SimState → Type 0
AnswersAllocation old size t (Ok name) new =
    (cause_now old Allocate ≡ None) × IsMade old name (new_object old.properties size t) new
AnswersAllocation old size t (Err error) new = IsRefusal (cause_now old Allocate) error × (new ≡ old)

-- only the objects change, and they change so
abbrev pub WithObjects : SimState → (FinMap nat_cmp Object → Type 0) → SimState → Type 0
WithObjects old P new = (objects : FinMap nat_cmp Object) × P objects × (new ≡ record old { objects = objects })

-- the mapped range of the object of that name is this one, or none
abbrev pub SetsMapped : SimState → ℕ → Option (ℕ × ℕ) → SimState → Type 0
SetsMapped old name range new = WithObjects old (ChangesAt (HasBytes range) (mapped_as range) old.objects name) new

-- the answer to a counted question to map: a refusal exactly where one was planned
abbrev pub MapAnswers : SimState → Range → Result (Unit {0}) DeviceMapError → SimState → Type 0
MapAnswers old range (Ok _) new =
    (cause_now old Map ≡ None) × SetsMapped old range.object (Some (range.offset, range.size)) new
MapAnswers old range (Err error) new = (option_map map_refusal_of (cause_now old Map) ≡ Some error) × (new ≡ old)

-- The answer to a counted question to flush or to invalidate: a refusal exactly where one was planned, after the first
-- half of each range was copied. A grant copies all of each range.
abbrev pub CopyAnswers : Direction → Question → SimState → List Range → Result (Unit {0}) OutOfMemory → SimState
    → Type 0
CopyAnswers way kind old ranges (Ok _) new =
    (cause_now old kind ≡ None) × WithObjects old (CopiesEach way Whole ranges old.objects) new
CopyAnswers way kind old ranges (Err error) new =
    (option_map refusal_of (cause_now old kind) ≡ Some error)
    × WithObjects old (CopiesEach way FirstHalf ranges old.objects) new

-- what the host writes into an object
abbrev pub Puts : SimState → (name offset : ℕ) → List ℕ → SimState → Type 0
Puts old name offset bytes new =
    WithObjects old
    (ChangesAt (HasRange offset (length bytes)) (put_by_host old.properties offset bytes) old.objects name) new

-- What a call does. What it does not name is unchanged.
abbrev pub DoesCall : SimState → Event → SimState → Type 0
DoesCall old (Allocated size t flags answer) new = AnswersAllocation (asked_to_allocate old size t flags) size t answer new
DoesCall old (Deallocated name) new = new ≡ record old { objects = map.remove old.objects name }
DoesCall old (Mapped range answer) new = MapAnswers (asked_to_map old range) range answer new
DoesCall old (Unmapped name) new = SetsMapped old name None new
DoesCall old (Flushed ranges answer) new =
    CopyAnswers ToDevice Flush (asked_to_copy old Flush ranges) ranges answer new
DoesCall old (Invalidated ranges answer) new =
    CopyAnswers ToHost Invalidate (asked_to_copy old Invalidate ranges) ranges answer new
DoesCall old (BytesPut name offset bytes) new = Puts old name offset bytes new
DoesCall old (BytesGot name offset bytes) new =
    (new ≡ old) × HeldWith (map.get old.objects) name (λ o. bytes ≡ take (length bytes) (drop offset o.host_bytes))

-- what a call does to a simulated device
abbrev pub SimStep : SimState → Event → SimState → Type 0
SimStep old e new = IsSoundSim old.last_name old.properties old.objects × DoesCall old e new

-- the objects, as every device shows them
abbrev pub objects_of : SimState → ℕ → Option Object
objects_of s = shown s.properties s.objects

-- bytes of an object that a command of the graphics device may write: inside it, and host-visible
pub record IsWritable (p : Properties) (offset size : ℕ) (o : Object) : Type 0 where
  pub visible : IsTrue (is_host_visible p o.memory_type)
  pub inside : offset + size ≤ o.size

-- what a command of the graphics device writes into an object
abbrev pub CommandWrites : SimState → (object offset : ℕ) → List ℕ → SimState → Type 0
CommandWrites old object offset bytes new =
    IsSoundSim old.last_name old.properties old.objects
    × WithObjects old
    (ChangesAt (HasRange offset (length bytes)) (put_by_device old.properties offset bytes) old.objects object) new
