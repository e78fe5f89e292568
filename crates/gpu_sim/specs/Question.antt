-- What a device is asked, and why it refuses.
use Rattle.std.specs.Prelude.{ℕ, cond}
use Rattle.std.specs.FinMap as map
use Rattle.std.specs.FinMap.{FinMap}
use Rattle.std.specs.Ordering.{nat_cmp}
use Rattle.gpu_alloc_types.specs.declared.types.DeviceMapError.{DeviceMapError}
use Rattle.gpu_alloc_types.specs.declared.types.DeviceMapError.TheVariants as DeviceMap
use Rattle.gpu_alloc_types.specs.declared.types.OutOfMemory.{OutOfMemory}
use Rattle.gpu_alloc_types.specs.declared.types.OutOfMemory.TheVariants.{OutOfDeviceMemory, OutOfHostMemory}
use Rattle.gpu_sim.specs.declared.sim.question.Question.{Question}
use Rattle.gpu_sim.specs.declared.sim.question.Question.TheVariants.{Allocate, Map, Flush, Invalidate}
use Rattle.gpu_sim.specs.declared.sim.question.Cause.{Cause}
use Rattle.gpu_sim.specs.declared.sim.question.Cause.TheVariants.{Device, Host, Failed}
use Rattle.gpu_sim.specs.declared.sim.question.ByKind.{ByKind}

-- the one for a kind of question
abbrev pub at : {T : Type 0} → ByKind T → Question → T
at all Allocate = all.allocate
at all Map = all.map
at all Flush = all.flush
at all Invalidate = all.invalidate

-- all, with a new value for one kind of question
abbrev pub with_at : {T : Type 0} → ByKind T → Question → T → ByKind T
with_at all Allocate one = record all { allocate = one }
with_at all Map one = record all { map = one }
with_at all Flush one = record all { flush = one }
with_at all Invalidate one = record all { invalidate = one }

-- the cause may be planned for that kind of question: a failed mapping only for maps
abbrev pub CanRefuse : Cause → Question → Type 0
CanRefuse Failed Map = Unit {0}
CanRefuse Failed kind = ⊥
CanRefuse cause kind = Unit {0}

-- the answer to a refused question for memory
abbrev pub refusal_of : Cause → OutOfMemory
refusal_of Device = OutOfDeviceMemory
refusal_of Host = OutOfHostMemory
refusal_of Failed = OutOfDeviceMemory

-- the answer to a refused question to map
abbrev pub map_refusal_of : Cause → DeviceMapError
map_refusal_of Device = DeviceMap.OutOfDeviceMemory
map_refusal_of Host = DeviceMap.OutOfHostMemory
map_refusal_of Failed = DeviceMap.MapFailed

-- one more plan, by the number of its question, unless that question has one
abbrev pub with_plan : ByKind (FinMap nat_cmp Cause) → Question → ℕ → Cause → ByKind (FinMap nat_cmp Cause)
with_plan plans kind nth cause =
    cond (map.contains_key (at plans kind) nth) plans (with_at plans kind (map.insert (at plans kind) nth cause))
