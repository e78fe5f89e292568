-- A heap's budget, and that no more than a heap has is ever asked of it.
use Rattle.std.specs.Prelude.{◌≡◌, ◌⊎◌, ℕ, ◌-◌, ◌<◌, ◌≤◌, Bool, true, false, List, [], length, cond, Option, Some, None}
use Rattle.std.specs.Prelude.{Result, Ok, Err, IfSome, slice_get, sum_by, min, set}
use Rattle.std.specs.FinMap as map
use Rattle.gpu_alloc_types.specs.Device.{Event}
use Rattle.gpu_alloc_types.specs.Properties.{Properties, heap_at, heap_size, size_of}
use Rattle.gpu_alloc_base.specs.Case.{Case, HasQuestion, HostRefuses, IsWithinBudget}
use Rattle.gpu_alloc_base.specs.NewChunk.{LacksDeviceMemory, made}
use Rattle.gpu_alloc_base.specs.declared.error.AllocationError.{AllocationError}
use Rattle.gpu_alloc_base.specs.declared.error.AllocationError.TheVariants.{OutOfDeviceMemory, OutOfHostMemory}
use Rattle.gpu_alloc_base.specs.declared.error.AllocationError.TheVariants.{NoCompatibleMemoryTypes, TooManyObjects}
use Rattle.gpu_alloc_block.specs.State.{HeldObject, Block, State, heap_limit, ledger, share}
use Rattle.gpu_alloc_block.specs.declared.block.Kind.{Kind}
use Rattle.gpu_alloc_block.specs.declared.block.Kind.TheVariants.{Dedicated as DedicatedObject, Imported, BuddyChunk}
use Rattle.gpu_alloc_block.specs.declared.block.Kind.TheVariants.{FreeListChunk, FitChunk}
use Rattle.gpu_alloc.specs.Allocation.{TriesCandidate, strategy}
use Rattle.gpu_alloc.specs.Candidates.{candidate}
use Rattle.gpu_alloc.specs.declared.request.Dedicated.{Dedicated}
use Rattle.gpu_alloc.specs.declared.request.Request.{Request}

-- The budget.

-- the size of a heap, 0 where there is no such heap
abbrev pub heap_bytes : Properties → ℕ → ℕ
heap_bytes p heap = size_of (slice_get p.memory_heaps heap)

-- how many bytes may still be asked of it: 0 where its ledger is at or above its limit
abbrev pub heap_budget : State → ℕ → ℕ
heap_budget s heap = heap_limit s heap - ledger s heap

-- no limit exceeds its heap's size
abbrev pub AreLimits : State → Type 0
AreLimits s = (heap : ℕ) → heap < length s.properties.memory_heaps → heap_limit s heap ≤ heap_bytes s.properties heap

-- with another limit of a heap; one at or above its size removes the limit
abbrev pub with_heap_limit : State → ℕ → ℕ → State
with_heap_limit s heap limit =
    record s { heap_limits = set s.heap_limits heap (min limit (heap_bytes s.properties heap)) }

-- What is held of a heap apart from imports.

-- the object is an import
abbrev pub is_import : Kind → Bool
is_import DedicatedObject = false
is_import Imported = true
is_import BuddyChunk = false
is_import (FreeListChunk number) = false
is_import FitChunk = false

-- what a held object counts, if the device was asked for it
abbrev pub asked_share : Properties → ℕ → ℕ × HeldObject → ℕ
asked_share p heap entry = cond (is_import entry.1.kind) 0 (share p heap entry)

-- how many bytes of a heap are held that the device was asked for
abbrev pub asked_bytes : State → ℕ → ℕ
asked_bytes s heap = sum_by (asked_share s.properties heap) (map.entries s.held)

-- they are never more than the heap has
abbrev pub IsWithinHeaps : State → Type 0
IsWithinHeaps s = (heap : ℕ) → heap < length s.properties.memory_heaps → asked_bytes s heap ≤ heap_bytes s.properties heap

-- no import of a heap's memory types is held
abbrev pub HoldsNoImportOf : State → ℕ → Type 0
HoldsNoImportOf s heap =
    (object : ℕ) → IfSome (map.get s.held object) (λ h. heap_at s.properties h.memory_type ≡ heap → is_import h.kind ≡ false)

-- What becomes of a question within the budget.

-- the device is asked, and the answer is its own; or host memory is missing for the allocator or for the device
abbrev pub IsDevicesAnswer : (c : Case Block State) → List Event → Result (Option Block) AllocationError → Type 0
IsDevicesAnswer c es (Ok None) = LacksDeviceMemory c.question es
IsDevicesAnswer c es (Ok (Some b)) = es ≡ made c.question (c.object b)
IsDevicesAnswer c es (Err OutOfHostMemory) = (es ≡ []) ⊎ HostRefuses c es
IsDevicesAnswer c es (Err OutOfDeviceMemory) = ⊥
IsDevicesAnswer c es (Err NoCompatibleMemoryTypes) = ⊥
IsDevicesAnswer c es (Err TooManyObjects) = ⊥

-- a candidate with a question within the budget, whose heap is no smaller than the request, is not passed over for its
-- budget
abbrev pub IsAskedWithinBudget : Type 0
IsAskedWithinBudget =
    (s : State) (r : Request) (hint : Option Dedicated) (t : ℕ) (es : List Event)
    (answer : Result (Option Block) AllocationError) (new : State) → TriesCandidate s r hint t es answer new
    → r.size ≤ heap_size s.properties t → HasQuestion (candidate (strategy s r hint t) s r t)
    → IsWithinBudget (candidate (strategy s r hint t) s r t)
    → IsDevicesAnswer (candidate (strategy s r hint t) s r t) es answer
