-- What the calls of a free list do.
use Rattle.std.specs.Prelude.{◌≡◌, ◌≢◌, ℕ, ◌+◌, ◌-◌, ◌^◌, ◌<◌, ◌≤◌, Bool, true, Option, Some, None, Result, Ok, Err}
use Rattle.std.specs.Prelude.{IsSome}
use Rattle.std.specs.FinMap as map
use Rattle.std.specs.FinSet as set
use Rattle.gpu_alloc_base.specs.Chunks.{Chunk}
use Rattle.gpu_alloc_base.specs.InHand as in_hand
use Rattle.gpu_alloc_base.specs.InHand.{Bytes}
use Rattle.gpu_alloc_freelist.specs.FreeListState.{ListSpace, IsLiveSlot, IsFreeIn}
use Rattle.gpu_alloc_base.specs.FreeRuns.{IsListPlace, IsLastWithRoom, IsLastRun, tail_start}
use Rattle.gpu_alloc_base.specs.declared.free_list_block.Slot.{Slot}
use Rattle.gpu_alloc_base.specs.declared.region.FreeListRegion.{FreeListRegion}

abbrev pub no_list_space : ListSpace
no_list_space = record { chunks = map.empty; live = set.empty; latest = 0 }

-- there is room for a block of this size, at a multiple of the alignment, in a held chunk
abbrev pub HasPlace : ListSpace → ℕ → ℕ → Type 0
HasPlace s size alignment = (chunk start : ℕ) × IsListPlace (IsFreeIn s) size alignment chunk start

-- the block is the tail of the last run with room, from the last aligned start that leaves the size
pub record IsTail (s : ListSpace) (size alignment : ℕ) (slot : Slot) : Type 0 where
  pub run : FreeListRegion
  pub last : IsLastWithRoom (IsFreeIn s) size alignment run
  pub chunk : slot.chunk ≡ run.chunk
  pub start : slot.offset ≡ tail_start size alignment run.end
  pub end : slot.offset + slot.size ≡ run.end
  pub object : (held : Chunk) × (map.get s.chunks slot.chunk ≡ Some held) × (slot.object ≡ held.object)

-- one more block is live
abbrev pub with_slot : ListSpace → Slot → ListSpace
with_slot s slot = record s { live = set.insert s.live slot }

-- one block fewer
abbrev pub without_slot : ListSpace → Slot → ListSpace
without_slot s slot = record s { live = set.remove s.live slot }

-- the bytes of a block, by its chunk's number: a list may get two chunks of one object
abbrev pub chunk_bytes_of : Slot → Bytes
chunk_bytes_of slot = record { object = slot.chunk; offset = slot.offset; size = slot.size }

-- a grant adds its block to those in hand
abbrev pub AddsBlock : ListSpace → ListSpace → Slot → Type 0
AddsBlock s new slot = in_hand.Adds chunk_bytes_of s.live new.live slot

-- a call that takes no block keeps each block that was in hand
abbrev pub LeavesBlocks : ListSpace → ListSpace → Type 0
LeavesBlocks s new = in_hand.Leaves chunk_bytes_of s.live new.live

-- a return removes its block, and no other
abbrev pub RemovesBlock : ListSpace → Slot → ListSpace → Type 0
RemovesBlock s slot new = in_hand.Removes chunk_bytes_of s.live slot new.live

-- a run with room is looked for: there is a block in the last one, or no such run, or no host memory for a block in one
abbrev pub TakesTail : {E : Type 0} → ListSpace → ℕ → ℕ → Result (Option Slot) E → ListSpace → Type 0
TakesTail s size alignment (Ok None) new = (HasPlace s size alignment → ⊥) × (new ≡ s)
TakesTail s size alignment (Ok (Some slot)) new = IsTail s size alignment slot × (new ≡ with_slot s slot)
TakesTail s size alignment (Err e) new = HasPlace s size alignment × (new ≡ s)

-- one more chunk is held, under the next number
abbrev pub with_numbered_chunk : ListSpace → ℕ → ℕ → ListSpace
with_numbered_chunk s object size = record s {
  chunks = map.insert s.chunks (s.latest + 1) (record { object = object; size = size });
  latest = s.latest + 1;
}

-- the tail of an unused chunk under that number
abbrev pub first_tail : ListSpace → ℕ → ℕ → ℕ → ℕ → Slot
first_tail s object whole size alignment = record {
  object = object;
  chunk = s.latest + 1;
  offset = tail_start size alignment whole;
  size = whole - tail_start size alignment whole;
}

-- a number is left for one more chunk
abbrev pub HasNumber : ListSpace → Type 0
HasNumber s = s.latest + 1 < 2 ^ 64

-- the chunk is held, and no block in it is live
pub record IsWhollyFree (s : ListSpace) (number : ℕ) : Type 0 where
  pub held : IsSome (map.get s.chunks number)
  pub unused : (slot : Slot) → IsLiveSlot s slot → slot.chunk ≢ number

-- the last run lies in this chunk
abbrev pub HasLastRun : ListSpace → ℕ → Type 0
HasLastRun s number = (r : FreeListRegion) × (IsLastRun (IsFreeIn s) r × (r.chunk ≡ number))

-- the chunk may be released: it is wholly free, and not that of the last run if that is to be kept
abbrev pub MayGo : ListSpace → Bool → ℕ → Type 0
MayGo s keep_last number = IsWhollyFree s number × (keep_last ≡ true → HasLastRun s number → ⊥)

-- it has the least number of those that may be released
pub record IsFirstToGo (s : ListSpace) (keep_last : Bool) (number : ℕ) : Type 0 where
  pub goes : MayGo s keep_last number
  pub least : (other : ℕ) → MayGo s keep_last other → number ≤ other

-- one chunk fewer
abbrev pub without_chunk : ListSpace → ℕ → ListSpace
without_chunk s number = record s { chunks = map.remove s.chunks number }
