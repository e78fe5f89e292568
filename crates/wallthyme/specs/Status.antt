-- The status of each denial.
use Rattle.std.specs.Prelude.{◌≡◌, ℕ, Bool}
use Rattle.gpu_alloc_base.specs.declared.error.AllocationError.{AllocationError}
use Rattle.gpu_alloc_base.specs.declared.error.AllocationError.TheVariants as allocation
use Rattle.gpu_alloc_base.specs.declared.error.MapError.{MapError}
use Rattle.gpu_alloc_base.specs.declared.error.MapError.TheVariants as mapping
use Rattle.gpu_desk.specs.declared.denial.Denial.{Denial}
use Rattle.gpu_desk.specs.declared.denial.Denial.TheVariants.{Open, Strayed, WouldAsk, Refused, MapRefused, Fault}
use Rattle.gpu_desk.specs.declared.denial.OpenError.{OpenError}
use Rattle.gpu_desk.specs.declared.denial.OpenError.TheVariants.{BadProperties, OutOfHostMemory}
use Rattle.gpu_session.specs.declared.command.Fault as faults
use Rattle.gpu_session.specs.declared.command.Fault.TheVariants as fault
use Rattle.wallthyme.specs.Layout.{asks_own_object, question_of}
use Rattle.wallthyme.specs.declared.layout.TheConstants as number
use Rattle.wallthyme.specs.declared.layout.Question.{Question}
use Rattle.wallthyme.specs.declared.status.TheConstants as status

abbrev pub status_of_refusal : AllocationError → ℕ
status_of_refusal allocation.OutOfDeviceMemory = status.OUT_OF_DEVICE_MEMORY
status_of_refusal allocation.OutOfHostMemory = status.OUT_OF_HOST_MEMORY
status_of_refusal allocation.NoCompatibleMemoryTypes = status.NO_COMPATIBLE_MEMORY_TYPES
status_of_refusal allocation.TooManyObjects = status.TOO_MANY_OBJECTS

abbrev pub status_of_map_refusal : MapError → ℕ
status_of_map_refusal mapping.OutOfDeviceMemory = status.OUT_OF_DEVICE_MEMORY
status_of_map_refusal mapping.OutOfHostMemory = status.OUT_OF_HOST_MEMORY
status_of_map_refusal mapping.NonHostVisible = status.NON_HOST_VISIBLE
status_of_map_refusal mapping.MapFailed = status.MAP_FAILED
status_of_map_refusal mapping.AlreadyMapped = status.ALREADY_MAPPED

abbrev pub status_of_fault : faults.Fault → ℕ
status_of_fault fault.NameInUse = status.UNKNOWN_KEY
status_of_fault fault.UnknownName = status.UNKNOWN_KEY
status_of_fault fault.BadSize = status.BAD_SIZE
status_of_fault fault.BadAlignment = status.BAD_ALIGNMENT
status_of_fault fault.NoDeviceAddress = status.NO_DEVICE_ADDRESS
status_of_fault fault.BadRange = status.BAD_RANGE
status_of_fault fault.BadType = status.BAD_MEMORY_TYPE
status_of_fault fault.NoRemaining = status.NO_REMAINING
status_of_fault fault.TooManyRemaining = status.TOO_MANY_REMAINING
status_of_fault fault.BadImportEnd = status.BAD_IMPORT_END
status_of_fault fault.NotMapped = status.UNKNOWN_KEY
status_of_fault fault.NoMemory = status.OUT_OF_HOST_MEMORY

abbrev pub status_of : Denial → ℕ
status_of (Open question own) = status.ASK
status_of Strayed = status.OTHER_QUESTION
status_of WouldAsk = status.WOULD_ASK
status_of (Refused refusal) = status_of_refusal refusal
status_of (MapRefused refusal) = status_of_map_refusal refusal
status_of (Fault fault) = status_of_fault fault

abbrev pub status_of_opening : OpenError → ℕ
status_of_opening BadProperties = status.BAD_PROPERTIES
status_of_opening OutOfHostMemory = status.OUT_OF_HOST_MEMORY

-- the question is the one that a denial leaves open
abbrev pub IsQuestionOf : Denial → Question → Type 0
IsQuestionOf d q = (own : Bool) × (d ≡ Open (question_of q) own) × (q.kind ≡ number.ALLOCATE → own ≡ asks_own_object q)

-- such a denial leaves the question open
abbrev pub LeavesOpen : (Denial → Type 0) → Question → Type 0
LeavesOpen P q = (d : Denial) × P d × IsQuestionOf d q

-- the status is that of such a denial
abbrev pub Denies : (Denial → Type 0) → ℕ → Type 0
Denies P status = (d : Denial) × P d × (status ≡ status_of d)
