-- The device that is asked from outside, and what its calls do.
use Rattle.std.specs.Prelude.{◌≡◌, ◌≢◌, ◌⊎◌, ℕ, ◌+◌, cond, List, [], ◌∷◌, ◌++◌, replicate, Option, Some, None}
use Rattle.std.specs.Prelude.{option_map, IsSome, Ok, Err, nat_le}
use Rattle.std.specs.FinMap as map
use Rattle.std.specs.FinMap.{FinMap}
use Rattle.std.specs.Ordering.{nat_cmp}
use Rattle.gpu_alloc_types.specs.Properties.{Properties, is_host_visible}
use Rattle.gpu_alloc_types.specs.Device.{Object, Event, Row}
use Rattle.gpu_alloc_types.specs.Device.Event.{Allocated, Deallocated, Mapped, Flushed, Invalidated}
use Rattle.gpu_alloc_types.specs.declared.types.OutOfMemory.TheVariants.{OutOfHostMemory}
use Rattle.gpu_answers.specs.Asking.{RunState, AsksInRun, begun, map_question, allocation_refusal, map_refusal}
use Rattle.gpu_answers.specs.DeviceState.{DeviceState}
use Rattle.gpu_answers.specs.Held.{HeldState}
use Rattle.gpu_answers.specs.declared.objects.HeldObject.{HeldObject}
use Rattle.gpu_answers.specs.declared.question.Answer.{Answer}
use Rattle.gpu_answers.specs.declared.question.Answer.TheVariants.{Granted}
use Rattle.gpu_answers.specs.declared.question.Question.TheVariants.{Allocate}

-- In the form in which every device shows its objects.

-- No bytes are stored: those that are host-visible are 0, for the host and for the device.
abbrev pub zeros : Properties → HeldObject → List ℕ
zeros p o = cond (is_host_visible p o.memory_type) (replicate o.size 0) []

-- the range, if it lies inside `size` bytes. (Each mapped range does.)
abbrev pub within : ℕ → Option (ℕ × ℕ) → Option (ℕ × ℕ)
within size None = None
within size (Some r) = cond (nat_le (r.0 + r.1) size) (Some r) None

abbrev pub shown_object : Properties → HeldObject → Object
shown_object p o = record {
  memory_type = o.memory_type;
  size = o.size;
  mapped = within o.size o.mapped;
  host_bytes = zeros p o;
  device_bytes = zeros p o;
}

abbrev pub all_shown : Properties → FinMap nat_cmp HeldObject → ℕ → Option Object
all_shown p objects name = option_map (shown_object p) (map.get objects name)

abbrev pub objects_of : DeviceState → ℕ → Option Object
objects_of s = all_shown s.properties s.held.objects

-- What its own calls do.

-- a device that holds nothing and was asked nothing
pub record IsFreshDevice (p : Properties) (s : DeviceState) : Type 0 where
  pub offers : s.properties ≡ p
  pub asked : s.run ≡ begun []
  pub holds : s.held.objects ≡ map.empty
  pub names : s.held.last_name ≡ 0
  pub gone : s.held.gone ≡ []

-- What the calls of every device do here, besides their row.

-- What a call asks in a run, and what it answers: the answer from outside. An allocation may also be refused for want
-- of room before it is asked. Flushes and invalidates are granted. They and calls that cannot fail ask nothing.
abbrev pub AnswersInRun : RunState → Event → RunState → Type 0
AnswersInRun old (Allocated size t flags (Ok name)) new =
    (asked : RunState) × AsksInRun old (Allocate size t flags) (Some Granted) asked
    × (new ≡ record asked { made = Some name })
AnswersInRun old (Allocated size t flags (Err error)) new =
    ((error ≡ OutOfHostMemory) × (new ≡ old))
    ⊎ ((told : Option Answer) × (told ≢ Some Granted) × AsksInRun old (Allocate size t flags) told new
    × (error ≡ allocation_refusal told))
AnswersInRun old (Mapped r (Ok _)) new = AsksInRun old (map_question old.made r.object r.offset r.size) (Some Granted) new
AnswersInRun old (Mapped r (Err error)) new =
    (told : Option Answer) × (told ≢ Some Granted) × AsksInRun old (map_question old.made r.object r.offset r.size) told new
    × (error ≡ map_refusal told)
AnswersInRun old (Flushed rs (Err error)) new = ⊥
AnswersInRun old (Invalidated rs (Err error)) new = ⊥
AnswersInRun old e new = new ≡ old

-- What a call does to the names. A new object has the next one, which was never used. The name of a released object,
-- which was held, is added after the other released ones.
abbrev pub Names : HeldState → Event → HeldState → Type 0
Names old (Allocated size t flags (Ok name)) new =
    (name ≡ old.last_name + 1) × (new.last_name ≡ name) × (new.gone ≡ old.gone)
Names old (Deallocated name) new =
    (new.last_name ≡ old.last_name) × (new.gone ≡ old.gone ++ name ∷ []) × IsSome (map.get old.objects name)
Names old e new = (new.last_name ≡ old.last_name) × (new.gone ≡ old.gone)

-- what a call of the device does
pub record IsStep (old : DeviceState) (e : Event) (new : DeviceState) : Type 0 where
  pub row : Row old.properties (objects_of old) e (objects_of new)
  pub offers : new.properties ≡ old.properties
  pub answers : AnswersInRun old.run e new.run
  pub names : Names old.held e new.held
