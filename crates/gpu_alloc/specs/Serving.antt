-- Whether a request can ever be served, whatever is held.
use Rattle.std.specs.Prelude.{◌≡◌, ◌≢◌, ◌⊎◌, ℕ, ◌<◌, ◌≤◌, List, [], length, cond, nat_lt, nat_eq}
use Rattle.std.specs.Prelude.{Some, None, Result, Err}
use Rattle.gpu_alloc_types.specs.Device.{Event}
use Rattle.gpu_alloc_types.specs.Properties.{Properties, heap_size}
use Rattle.gpu_alloc_base.specs.declared.config.Config.{Config}
use Rattle.gpu_alloc_base.specs.declared.error.AllocationError.{AllocationError}
use Rattle.gpu_alloc_base.specs.declared.error.AllocationError.TheVariants.{OutOfDeviceMemory, OutOfHostMemory}
use Rattle.gpu_alloc_base.specs.declared.error.AllocationError.TheVariants.{NoCompatibleMemoryTypes}
use Rattle.gpu_alloc.specs.Allocation.{Allocates, IsCandidate, Refuses, candidates_of}
use Rattle.gpu_alloc.specs.Opening.{opened_by}
use Rattle.gpu_alloc_block.specs.State.{Block, State}
use Rattle.gpu_alloc_block.specs.declared.sharing.Sharing.{Sharing}
use Rattle.gpu_alloc.specs.declared.request.Dedicated.TheVariants.{Required}
use Rattle.gpu_alloc.specs.declared.request.Request.{Request}

-- the request is within the size limit, and one of its candidates has a heap that is at least as large
pub record MayServe (s : State) (r : Request) : Type 0 where
  pub small : r.size ≤ s.properties.max_memory_allocation_size
  pub candidate : (t : ℕ) × IsCandidate s r t × (r.size ≤ heap_size s.properties t)

-- the error of a request that may not be served
abbrev pub lasting_refusal : State → Request → AllocationError
lasting_refusal s r =
    cond (nat_lt s.properties.max_memory_allocation_size r.size) OutOfDeviceMemory
    (cond (nat_eq (length (candidates_of s r)) 0) NoCompatibleMemoryTypes OutOfDeviceMemory)

-- What a request that may not be served comes to, now and in every later state: nothing is asked, and it is refused.
abbrev pub NeverServed : Type 0
NeverServed = (s later : State) (r : Request) (es : List Event) (answer : Result Block AllocationError) (new : State)
    → (MayServe s r → ⊥) → later.properties ≡ s.properties → Allocates later r None es answer new
    → Refuses later (lasting_refusal s r) es answer new

-- What a request that may be served comes to in an allocator that holds nothing, where an object may be held. The
-- device is asked for an object of the request's own, unless host memory is missing.
abbrev pub AsksForOwnObjects : Type 0
AsksForOwnObjects =
    (sharing : Sharing) (c : Config) (p : Properties) (r : Request) (es : List Event) (answer : Result Block AllocationError) (new : State)
    → MayServe (opened_by sharing c p) r → 0 < p.max_memory_allocation_count
    → Allocates (opened_by sharing c p) r (Some Required) es answer new → (es ≢ []) ⊎ (answer ≡ Err OutOfHostMemory)
