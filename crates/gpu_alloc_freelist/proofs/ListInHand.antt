-- What the calls of a free list leave of the blocks in hand and of its chunks.
use Rattle.std.proofs.Common.{◌≡◌, ℕ, ◌+◌, ◌<◌, ◌≤◌, Bool, false, Some, refl, ap, arith}
use Rattle.std.specs.FinMap as map
use Rattle.std.specs.FinSet as set
use Rattle.gpu_alloc_base.specs.Chunks.{Chunk}
use Rattle.gpu_alloc_base.specs.declared.free_list_block.Slot.{Slot}
use Rattle.gpu_alloc_base.proofs.InHand.{grant_adds, grant_leaves, leaves_same, no_chunks, none_in, return_removes}
use Rattle.gpu_alloc_base.proofs.Slots.{slot_total, slot_exact}
use Rattle.gpu_alloc_base.proofs.Sums.{len_less}
use Rattle.gpu_alloc_freelist.specs.FreeList.{AddsBlock, IsTail, LeavesBlocks, MayGo, RemovesBlock, chunk_bytes_of, first_tail, with_numbered_chunk, with_slot, without_chunk, without_slot}
use Rattle.gpu_alloc_freelist.specs.FreeListSound.{IsSoundListSpace}
use Rattle.gpu_alloc_freelist.specs.FreeListState.{ListSpace, IsLiveSlot}
use Rattle.gpu_alloc_freelist.proofs.FreeListAnswers.{first_enough, tail_enough, tail_free}
use Rattle.gpu_alloc_freelist.proofs.Spaces.{none_in_next}

-- A block comes: it is another than each that was live.

-- the tail of a run
pub tail_adds : (s new : ListSpace) (size alignment : ℕ) (slot : Slot) → 0 < size → IsTail s size alignment slot → new ≡ with_slot s slot → AddsBlock s new slot
tail_adds s new size alignment slot some tail is =
    grant_adds slot_total slot_exact chunk_bytes_of s.live slot new.live (ap (λ (x : ListSpace). x.live) is) (omega (arith, some, tail_enough s size alignment slot tail))
    (λ q live same at in_q in_slot. (tail_free s size alignment slot tail at in_slot.from in_slot.to).unused q live same in_q)

-- the tail of a new chunk
pub first_adds : (s new : ListSpace) (object whole size alignment : ℕ) (slot : Slot) → IsSoundListSpace s → 0 < size → size ≤ whole → slot ≡ first_tail s object whole size alignment
    → new ≡ with_slot (with_numbered_chunk s object whole) slot → AddsBlock s new slot
first_adds s new object whole size alignment slot sound some fits first is =
    grant_adds slot_total slot_exact chunk_bytes_of s.live slot new.live (ap (λ (x : ListSpace). x.live) is)
    (omega (arith, some, first_enough s object whole size alignment fits, ap (λ (q : Slot). q.size) first))
    (λ q live same at in_q in_slot. none_in_next s sound q live (let number = ap (λ (x : Slot). x.chunk) first in cc))

-- and each of those is live still

pub slot_leaves : (s new : ListSpace) (slot : Slot) → new ≡ with_slot s slot → LeavesBlocks s new
slot_leaves s new slot is = grant_leaves slot_total slot_exact chunk_bytes_of s.live slot new.live (ap (λ (x : ListSpace). x.live) is)

pub same_leaves : (s new : ListSpace) → new ≡ s → LeavesBlocks s new
same_leaves s new is = leaves_same chunk_bytes_of s.live new.live (ap (λ (x : ListSpace). x.live) is)

-- A block is removed, and no other.

pub slot_removes : (s new : ListSpace) (slot : Slot) → IsLiveSlot s slot → new ≡ without_slot s slot → RemovesBlock s slot new
slot_removes s new slot live is = return_removes slot_total slot_exact chunk_bytes_of s.live slot new.live (ap (λ (x : ListSpace). x.live) is) live

-- Chunks go.

-- where none may go and no block is live, none is held
pub none_held : (s : ListSpace) (keep_last : Bool) → ((number : ℕ) → MayGo s keep_last number → ⊥) → keep_last ≡ false → set.len s.live ≡ 0 → map.len s.chunks ≡ 0
none_held s keep_last none lets empty = no_chunks s.chunks (λ number chunk is.
    none number (record { held = rw is refl; unused = λ slot live of. none_in s.live empty slot live }, λ kept last. cc))

-- one that goes is one fewer
pub one_fewer : (s new : ListSpace) (number : ℕ) (chunk : Chunk) → map.get s.chunks number ≡ Some chunk → new ≡ without_chunk s number → map.len new.chunks + 1 ≡ map.len s.chunks
one_fewer s new number chunk is gone = omega (arith, len_less s.chunks number chunk is, ap (λ (x : ListSpace). map.len x.chunks) gone)
