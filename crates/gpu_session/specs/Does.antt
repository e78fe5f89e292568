-- What a command with this answer does: what the device is asked, and what the books say afterwards.
use Rattle.std.specs.Prelude.{◌≡◌, ◌⊎◌, ◌↔◌, ℕ, ◌+◌, ◌<◌, true, List, [], ◌∷◌, length, Some, None, Result, Ok, Err}
use Rattle.std.specs.Prelude.{slice_get, is_some}
use Rattle.std.specs.List.{Contains}
use Rattle.std.specs.FinMap as map
use Rattle.gpu_alloc_types.specs.Device.{Event, Range}
use Rattle.gpu_alloc_types.specs.Device.Event.{Allocated, Deallocated, BytesPut, BytesGot}
use Rattle.gpu_alloc_types.specs.Properties.{Properties}
use Rattle.gpu_alloc_types.specs.declared.types.OutOfMemory.{OutOfMemory}
use Rattle.gpu_alloc_types.specs.declared.types.FreeRange.{FreeRange}
use Rattle.gpu_alloc.specs.Allocation.{Allocates}
use Rattle.gpu_alloc.specs.Bytes.{AsksToWrite, AsksToRead, IsCopyRefused, flush_fails, invalidate_fails, where_some}
use Rattle.gpu_alloc.specs.Errors.{like_memory}
use Rattle.gpu_alloc.specs.FreeRanges.{IsFreeRangeOf}
use Rattle.gpu_alloc.specs.Importing.{Imports}
use Rattle.gpu_alloc.specs.Mapped.{AsksToMap, IsMapRefused, mapping_of, refusal, unmapping}
use Rattle.gpu_alloc.specs.NewChunk.{flags_of}
use Rattle.gpu_alloc.specs.RangeOrder.{AreInOrder}
use Rattle.gpu_alloc.specs.Ranges.{rounded_range}
use Rattle.gpu_alloc.specs.Release.{Cleans, Frees}
use Rattle.gpu_alloc.specs.State.{Block, State, ledger}
use Rattle.gpu_alloc.specs.Types.AllocationError.{AllocationError}
use Rattle.gpu_alloc.specs.Types.Mapping.{Mapping}
use Rattle.gpu_alloc.specs.Types.MapError.{MapError}
use Rattle.gpu_session.specs.Books.{Books, OfBlock, with_block}
use Rattle.gpu_session.specs.Faults.{first_fault, may_want_memory}
use Rattle.gpu_session.specs.declared.command.Command.{Command}
use Rattle.gpu_session.specs.declared.command.Command.TheVariants.{Alloc, Dedicated, Import, Free, Map, Unmap, Write}
use Rattle.gpu_session.specs.declared.command.Command.TheVariants.{Read, Put, Get, SetRemaining, Cleanup, FreeRanges}
use Rattle.gpu_session.specs.declared.command.Command.TheVariants.{Counts}
use Rattle.gpu_session.specs.declared.command.Fault.{Fault}
use Rattle.gpu_session.specs.declared.command.Fault.TheVariants.{NoMemory}
use Rattle.gpu_session.specs.declared.command.Reply.{Reply}
use Rattle.gpu_session.specs.declared.command.Reply.TheVariants.{Granted, Refused, Done, Mapped as MappedTo, MapRefused}
use Rattle.gpu_session.specs.declared.command.Reply.TheVariants.{Unmapped as WasMapped, Bytes, Ranges}
use Rattle.gpu_session.specs.declared.command.Reply.TheVariants.{Counts as Counted, Fault as Faulty}

-- the block that a grant describes
abbrev pub IsTold : Block → (memory_type object offset size : ℕ) → Type 0
IsTold b memory_type object offset size =
    (b.memory_type ≡ memory_type) × (b.object ≡ object) × (b.offset ≡ offset) × (b.size ≡ size)

-- An allocation: the decision's block, which has the name from then on.
abbrev pub GivesBlock : Books → ℕ → (Block → State → Type 0) → (memory_type object offset size : ℕ) → Books → Type 0
GivesBlock old name Gives memory_type object offset size new =
    (b : Block) × IsTold b memory_type object offset size × Gives b new.allocator
    × (new.blocks ≡ map.insert old.blocks name b)

-- the device's call for an import: one object, with the flags of every question
abbrev pub object_asked : Properties → (memory_type object_size : ℕ) → Result ℕ OutOfMemory → Event
object_asked p t object_size answer = Allocated object_size t (flags_of p) answer

-- the device made the object, of which the block is the given span
abbrev pub ImportsNew : State → (memory_type object_size offset size : ℕ) → List Event → Block → State → Type 0
ImportsNew s t object_size offset size es b new =
    (es ≡ object_asked s.properties t object_size (Ok b.object) ∷ []) × Imports s b.object t offset size new b

-- the device refused the object, for this cause
abbrev pub RefusesObject : State → (memory_type object_size : ℕ) → AllocationError → List Event → Type 0
RefusesObject s t object_size e es =
    (cause : OutOfMemory) × (e ≡ like_memory cause) × (es ≡ object_asked s.properties t object_size (Err cause) ∷ [])

-- A byte call ends early. The block or the device refuses its mapping, or the device refuses the copy between host and
-- device bytes. Where there are no bytes to move, only the block itself refuses.
abbrev pub EndsEarly : Block → Range → ℕ → (OutOfMemory → List Event) → MapError → List Event → Type 0
EndsEarly b r len failing e es =
    (refusal b ≡ None → 0 < len) × (IsMapRefused b r e es ⊎ IsCopyRefused b r failing e es)

-- some bytes are moved, in the block's mapping
abbrev pub InMapping : Block → ℕ → (Mapping → Event) → List Event → Type 0
InMapping b len e es = (m : Mapping) × (b.mapping ≡ Some m) × (es ≡ where_some len (e m ∷ []))

-- one number for each heap: its ledger
pub record IsEachLedger (s : State) (used : List ℕ) : Type 0 where
  pub count : length used ≡ length (s.properties).memory_heaps
  pub each : (heap : ℕ) → heap < length used → slice_get used heap ≡ Some (ledger s heap)

-- exactly the free pieces and free runs of a memory type, in their order
pub record IsEachFreeRange (s : State) (t : ℕ) (ranges : List FreeRange) : Type 0 where
  pub exact : (r : FreeRange) → Contains ranges r ↔ IsFreeRangeOf s t r
  pub order : AreInOrder ranges

-- What happens where no fault is answered.
abbrev pub ServesCommand : {A : Type 0} → Books → Command A → List Event → Reply A → Books → Type 0
ServesCommand old (Alloc name request) es (Granted memory_type object offset size) new =
    GivesBlock old name (λ b after. Allocates old.allocator request None es (Ok b) after) memory_type object offset size
    new
ServesCommand old (Alloc name request) es (Refused e) new =
    Allocates old.allocator request None es (Err e) new.allocator × (new.blocks ≡ old.blocks)
ServesCommand old (Alloc name request) es reply new = ⊥
ServesCommand old (Dedicated name request dedicated) es (Granted memory_type object offset size) new =
    GivesBlock old name (λ b after. Allocates old.allocator request (Some dedicated) es (Ok b) after) memory_type object
    offset size new
ServesCommand old (Dedicated name request dedicated) es (Refused e) new =
    Allocates old.allocator request (Some dedicated) es (Err e) new.allocator × (new.blocks ≡ old.blocks)
ServesCommand old (Dedicated name request dedicated) es reply new = ⊥
ServesCommand old (Import name t object_size start len) es (Granted memory_type object offset size) new =
    GivesBlock old name (ImportsNew old.allocator t object_size start len es) memory_type object offset size new
ServesCommand old (Import name t object_size start len) es (Refused e) new =
    RefusesObject old.allocator t object_size e es × (new ≡ old)
ServesCommand old (Import name t object_size start len) es reply new = ⊥
ServesCommand old (Free name) es Done new =
    OfBlock old name (λ b. Frees old.allocator b es new.allocator × (new.blocks ≡ map.remove old.blocks name))
ServesCommand old (Free name) es reply new = ⊥
ServesCommand old (Map name offset size) es (MappedTo mapping) new =
    OfBlock old name (λ b. AsksToMap b offset size (Ok mapping) es × (mapping ≡ mapping_of b offset size)
    × (new ≡ with_block old name (record b { mapping = Some mapping })))
ServesCommand old (Map name offset size) es (MapRefused e) new =
    OfBlock old name (λ b. AsksToMap b offset size (Err e) es × (new ≡ old))
ServesCommand old (Map name offset size) es reply new = ⊥
ServesCommand old (Unmap name) es (WasMapped was) new =
    OfBlock old name (λ b. (was ≡ is_some b.mapping) × (es ≡ unmapping b)
    × (new ≡ with_block old name (record b { mapping = None })))
ServesCommand old (Unmap name) es reply new = ⊥
ServesCommand old (Write name offset bytes) es Done new = OfBlock old name (λ b. AsksToWrite b offset bytes es × (new ≡ old))
ServesCommand old (Write name offset bytes) es (MapRefused e) new =
    OfBlock old name (λ b. EndsEarly b (rounded_range b offset (length bytes)) (length bytes) (flush_fails b offset bytes) e es
    × (new ≡ old))
ServesCommand old (Write name offset bytes) es reply new = ⊥
ServesCommand old (Read name offset len) es (Bytes bytes) new =
    OfBlock old name (λ b. (length bytes ≡ len) × AsksToRead b offset bytes es × (new ≡ old))
ServesCommand old (Read name offset len) es (MapRefused e) new =
    OfBlock old name (λ b. EndsEarly b (rounded_range b offset len) len (invalidate_fails (rounded_range b offset len)) e es
    × (new ≡ old))
ServesCommand old (Read name offset len) es reply new = ⊥
ServesCommand old (Put name offset bytes) es Done new =
    OfBlock old name (λ b. InMapping b (length bytes) (λ m. BytesPut b.object (m.start + offset) bytes) es × (new ≡ old))
ServesCommand old (Put name offset bytes) es reply new = ⊥
ServesCommand old (Get name offset len) es (Bytes bytes) new =
    OfBlock old name (λ b. (length bytes ≡ len)
    × InMapping b len (λ m. BytesGot b.object (m.start + offset) bytes) es × (new ≡ old))
ServesCommand old (Get name offset len) es reply new = ⊥
ServesCommand old (SetRemaining remaining) es Done new =
    (es ≡ []) × (new ≡ record old { allocator = record (old.allocator) { remaining = remaining } })
ServesCommand old (SetRemaining remaining) es reply new = ⊥
ServesCommand old Cleanup es Done new = Cleans old.allocator es new.allocator × (new.blocks ≡ old.blocks)
ServesCommand old Cleanup es reply new = ⊥
ServesCommand old (FreeRanges t) es (Ranges ranges) new =
    (es ≡ []) × (new ≡ old) × IsEachFreeRange old.allocator t ranges
ServesCommand old (FreeRanges t) es reply new = ⊥
ServesCommand old Counts es (Counted remaining held used) new =
    (es ≡ []) × (new ≡ old)
    × (remaining ≡ (old.allocator).remaining) × (held ≡ map.len (old.allocator).held) × IsEachLedger old.allocator used
ServesCommand old Counts es reply new = ⊥

-- an object that was made for an import is released
abbrev pub LetsObjectGo : Properties → (memory_type object_size : ℕ) → List Event → Type 0
LetsObjectGo p t object_size es =
    (object : ℕ) × (es ≡ object_asked p t object_size (Ok object) ∷ Deallocated object ∷ [])

-- What a command that then finds no host memory asks of the device: nothing, except that an import may have made its
-- object and released it.
abbrev pub AsksInVain : {A : Type 0} → Books → Command A → List Event → Type 0
AsksInVain old (Alloc name request) es = es ≡ []
AsksInVain old (Dedicated name request dedicated) es = es ≡ []
AsksInVain old (Import name t object_size offset size) es =
    (es ≡ []) ⊎ LetsObjectGo old.allocator.properties t object_size es
AsksInVain old (Free name) es = es ≡ []
AsksInVain old (Map name offset size) es = es ≡ []
AsksInVain old (Unmap name) es = es ≡ []
AsksInVain old (Write name offset bytes) es = es ≡ []
AsksInVain old (Read name offset len) es = es ≡ []
AsksInVain old (Put name offset bytes) es = es ≡ []
AsksInVain old (Get name offset len) es = es ≡ []
AsksInVain old (SetRemaining remaining) es = es ≡ []
AsksInVain old Cleanup es = es ≡ []
AsksInVain old (FreeRanges t) es = es ≡ []
AsksInVain old Counts es = es ≡ []

-- A fault changes nothing: it is the first missed condition, or want of host memory where no condition is missed.
abbrev pub Faults : {A : Type 0} → Books → Command A → List Event → Fault → Books → Type 0
Faults old command es fault new =
    (new ≡ old)
    × (((first_fault old command ≡ Some fault) × (es ≡ []))
    ⊎ ((fault ≡ NoMemory) × (first_fault old command ≡ None) × (may_want_memory command ≡ true)
    × AsksInVain old command es))

abbrev pub Does : {A : Type 0} → Books → Command A → List Event → Reply A → Books → Type 0
Does old command es (Faulty fault) new = Faults old command es fault new
Does old command es reply new = (first_fault old command ≡ None) × ServesCommand old command es reply new
