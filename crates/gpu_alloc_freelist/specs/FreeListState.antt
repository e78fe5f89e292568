-- What a free list holds and has given out, and what its allocator keeps besides.
use Rattle.std.specs.Prelude.{◌≡◌, ℕ, ◌<◌, Some, IsTrue}
use Rattle.std.specs.FinMap as map
use Rattle.std.specs.FinSet as set
use Rattle.std.specs.Ordering.{nat_cmp}
use Rattle.gpu_alloc_base.specs.Chunks.{Chunk}
use Rattle.gpu_alloc_base.specs.FreeSpace.{IsIn}
use Rattle.gpu_alloc_base.specs.declared.free_list_block.Slot.{Slot}
use Rattle.gpu_alloc_base.specs.InHand.{Bytes}
use Rattle.gpu_alloc_base.specs.Slots.{slot_cmp}
pub use Rattle.gpu_alloc_shared.specs.Sized.{alignment, chunk_size, next_size, rounded}
use Rattle.gpu_alloc_shared.specs.Sized.{SizedState}

-- The held chunks by number, the live blocks, and the number of the latest chunk: 0 before the first.
pub record ListSpace : Type 0 where
  pub chunks : map.FinMap nat_cmp Chunk
  pub live : set.FinSet slot_cmp
  pub latest : ℕ

-- A free list: its space, and how many more chunks with a block each there is room for.
pub record ListStore : Type 0 where
  pub space : ListSpace
  pub room : ℕ

-- A free-list allocator: its space, and the sizes of what it gives out.
abbrev pub FreeListState : Type 0
FreeListState = SizedState ListSpace

-- An allocator's list with its sizes: what is held and live, and how many more chunks there is room for.
pub record SizedList : Type 0 where
  pub state : FreeListState
  pub room : ℕ

abbrev pub IsLiveSlot : ListSpace → Slot → Type 0
IsLiveSlot s slot = IsTrue (set.contains s.live slot)

-- the byte lies in a held chunk, and in no live block
pub record IsFreeIn (s : ListSpace) (chunk at : ℕ) : Type 0 where
  pub held : Chunk
  pub is : map.get s.chunks chunk ≡ Some held
  pub inside : at < held.size
  pub unused : (slot : Slot) → IsLiveSlot s slot → slot.chunk ≡ chunk → IsIn slot.offset slot.size at → ⊥

-- the bytes of a block
abbrev pub bytes_of : Slot → Bytes
bytes_of slot = record { object = slot.object; offset = slot.offset; size = slot.size }
