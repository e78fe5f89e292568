-- What holds of a free list and of its allocator between calls.
use Rattle.std.specs.Prelude.{◌≡◌, ℕ, ◌+◌, ◌<◌, ◌≤◌, ◌^◌, Some}
use Rattle.std.specs.FinMap as map
use Rattle.gpu_alloc_base.specs.FreeSpace.{IsIn}
use Rattle.gpu_alloc_base.specs.Chunks.{Chunk}
use Rattle.gpu_alloc_freelist.specs.FreeListState.{ListSpace, FreeListState, IsLiveSlot}
use Rattle.gpu_alloc_base.specs.declared.free_list_block.Slot.{Slot}
use Rattle.gpu_alloc_shared.specs.Sized.{IsSoundSized}

-- a live block is not empty, and lies in its chunk
pub record LiesInChunk (s : ListSpace) (slot : Slot) : Type 0 where
  pub chunk : Chunk
  pub held : map.get s.chunks slot.chunk ≡ Some chunk
  pub object : slot.object ≡ chunk.object
  pub nonempty : 0 < slot.size
  pub inside : slot.offset + slot.size ≤ chunk.size

-- chunks are not empty and have numbers from 1 to the latest, and live blocks are apart
pub record IsSoundListSpace (s : ListSpace) : Type 0 where
  pub numbers : (k : ℕ) (c : Chunk) → map.get s.chunks k ≡ Some c → (0 < k) × (k ≤ s.latest)
  pub sizes : (k : ℕ) (c : Chunk) → map.get s.chunks k ≡ Some c → (0 < c.size) × (c.size < 2 ^ 64)
  pub inside : (slot : Slot) → IsLiveSlot s slot → LiesInChunk s slot
  pub apart : (x y : Slot) → IsLiveSlot s x → IsLiveSlot s y → x.chunk ≡ y.chunk → (at : ℕ) → IsIn x.offset x.size at
      → IsIn y.offset y.size at → x ≡ y

-- chunks have objects of their own and are no larger than the largest, and chunks and blocks have whole atoms
abbrev pub IsSoundFreeList : FreeListState → Type 0
IsSoundFreeList = IsSoundSized (λ (s : ListSpace). s.chunks) (λ (s : ListSpace). s.live) IsSoundListSpace
