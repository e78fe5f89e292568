-- What an allocator of shared chunks accounts for: its chunks, the ledger of their heap, and how many more objects may
-- be held.
use Rattle.std.specs.Prelude.{◌≡◌, ℕ, ◌+◌, ◌^◌, ◌<◌, ◌≤◌, length, Option, Result, Ok, Err, IfSome, sum_by}
use Rattle.std.specs.FinMap as map
use Rattle.std.specs.Ordering.{nat_cmp}
use Rattle.gpu_alloc_types.specs.Device.{Object, HeldWith}
use Rattle.gpu_alloc_types.specs.Flags.{has_bit, host_visible}
use Rattle.gpu_alloc_types.specs.Properties.{Properties, props_at}
use Rattle.gpu_alloc_base.specs.Chunks.{Chunk, IsThere, IsNew}
use Rattle.gpu_alloc_base.specs.NewObject.{ObjectsGiven}
use Rattle.gpu_alloc_base.specs.declared.error.AllocationError.{AllocationError}
use Rattle.gpu_alloc_base.specs.declared.heap.Heap.{Heap}

-- What a call changes: the allocator, the heap of its memory type, and how many more objects may be held.
pub record Account (S : Type 0) : Type 0 where
  pub allocator : S
  pub heap : Heap
  pub remaining : ℕ

abbrev pub account : {S : Type 0} → S → Heap → ℕ → Account S
account s heap remaining = record { allocator = s; heap = heap; remaining = remaining }

-- held chunks, by keys or by numbers
abbrev pub HeldChunks : Type 0
HeldChunks = map.FinMap nat_cmp Chunk

-- what they add to their heap's ledger
abbrev pub chunk_bytes : HeldChunks → ℕ
chunk_bytes chunks = sum_by (λ e. e.1.size) (map.entries chunks)

-- how many chunks are held or may still be made
abbrev pub chunks_and_remaining : HeldChunks → ℕ → ℕ
chunks_and_remaining chunks remaining = remaining + map.len chunks

-- the ledger counts each of them, and the count of objects will not overflow
pub record IsCounted (chunks : HeldChunks) (heap : Heap) (remaining : ℕ) : Type 0 where
  pub ledger : chunk_bytes chunks ≤ heap.used
  pub objects : chunks_and_remaining chunks remaining < 2 ^ 32

-- Device and allocator agree: the device has the memory type with its properties and holds each chunk, mapped whole
-- where it is host-visible.
pub record Agrees (memory_type props : ℕ) (chunks : HeldChunks) (p : Properties)
    (objects : ℕ → Option Object) : Type 0 where
  pub known : memory_type < length p.memory_types
  pub same : props_at p memory_type ≡ props
  pub holds : (key : ℕ) → IfSome (map.get chunks key)
      (λ chunk. HeldWith objects chunk.object (IsThere memory_type (has_bit props host_visible) chunk))

-- What a request does to the device's objects, where these functions give its block's chunk and object. There is one
-- object more where that chunk was not held before, and otherwise nothing changes.
abbrev pub ObjectsAfter : {B : Type 0} → (B → ℕ) → (B → ℕ) → ℕ → ℕ → HeldChunks → Result B AllocationError → HeldChunks
    → (ℕ → Option Object) → (ℕ → Option Object) → Type 0
ObjectsAfter chunk object memory_type props before (Ok b) after old new =
    ObjectsGiven (IsNew memory_type (has_bit props host_visible)) (map.get before (chunk b)) (map.get after (chunk b)) (object b)
    old new
ObjectsAfter chunk object memory_type props before (Err e) after old new = new ≡ old
