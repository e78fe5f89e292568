-- Shared chunks and the live blocks in them: what is free, where there is room, and how a grant and a return change
-- them.
use Rattle.std.specs.Prelude.{◌≡◌, ◌≢◌, ◌==◌, ◌↔◌, ◌⊎◌, ℕ, ◌+◌, ◌<◌, ◌≤◌, ◌^◌, Option, Some, None, IsSome, IsTrue, cond}
use Rattle.std.specs.FinMap as map
use Rattle.std.specs.FinSet as set
use Rattle.gpu_alloc_types.specs.declared.types.FreeRange.{FreeRange}
use Rattle.gpu_alloc_base.specs.Accounts.{HeldChunks}
use Rattle.gpu_alloc_base.specs.Chunks.{Chunk}
use Rattle.gpu_alloc_base.specs.FreeRuns.{AreFree, IsFreeRun, IsListPlace, tail_start}
use Rattle.gpu_alloc_base.specs.FreeSpace.{IsIn, IsMultipleOf}
use Rattle.gpu_alloc_base.specs.InHand as in_hand
use Rattle.gpu_alloc_base.specs.InHand.{Bytes}
use Rattle.gpu_alloc_base.specs.Slots.{slot_cmp}
use Rattle.gpu_alloc_base.specs.declared.free_list_block.Slot.{Slot}
use Rattle.gpu_alloc_base.specs.declared.region.FreeListRegion.{FreeListRegion}
use Rattle.gpu_alloc_runs.specs.Choice.{AreFewLooks, IsChosenRun}

-- the held chunks by key, and the live blocks
pub record FitSpace : Type 0 where
  pub chunks : HeldChunks
  pub live : set.FinSet slot_cmp

abbrev pub no_fit_space : FitSpace
no_fit_space = record { chunks = map.empty; live = set.empty }

abbrev pub IsLiveSlot : FitSpace → Slot → Type 0
IsLiveSlot s slot = IsTrue (set.contains s.live slot)

-- a live block of this span of an object
pub record IsLiveFitSpan (s : FitSpace) (object offset size : ℕ) (slot : Slot) : Type 0 where
  pub live : IsLiveSlot s slot
  pub of_object : slot.object ≡ object
  pub starts : slot.offset ≡ offset
  pub of_size : slot.size ≡ size

-- no live block has this span
abbrev pub IsNoLiveFitSpan : FitSpace → ℕ → ℕ → ℕ → Type 0
IsNoLiveFitSpan s object offset size = (slot : Slot) → IsLiveFitSpan s object offset size slot → ⊥

-- the byte lies in a held chunk, and in no live block
pub record IsFreeIn (s : FitSpace) (chunk at : ℕ) : Type 0 where
  pub held : Chunk
  pub is : map.get s.chunks chunk ≡ Some held
  pub inside : at < held.size
  pub unused : (slot : Slot) → IsLiveSlot s slot → slot.chunk ≡ chunk → IsIn slot.offset slot.size at → ⊥

-- there is room for a block of this size, at a multiple of the alignment, in a held chunk
abbrev pub HasPlace : FitSpace → ℕ → ℕ → Type 0
HasPlace s size alignment = (chunk start : ℕ) × IsListPlace (IsFreeIn s) size alignment chunk start

-- the size of a chunk, 0 where there is none
abbrev pub size_of : Option Chunk → ℕ
size_of None = 0
size_of (Some chunk) = chunk.size

abbrev pub chunk_bytes : FitSpace → ℕ → ℕ
chunk_bytes s key = size_of (map.get s.chunks key)

-- the block has exactly this size, and lies in free bytes of a held chunk at a multiple of the alignment: the last one
-- in the free run that is chosen
pub record IsFitting (s : FitSpace) (size alignment : ℕ) (slot : Slot) : Type 0 where
  pub exact : slot.size ≡ size
  pub aligned : IsMultipleOf alignment slot.offset
  pub chunk : Chunk
  pub held : map.get s.chunks slot.chunk ≡ Some chunk
  pub object : slot.object ≡ chunk.object
  pub free : AreFree (IsFreeIn s) slot.chunk slot.offset (slot.offset + slot.size)
  pub run : FreeListRegion
  pub in_chunk : run.chunk ≡ slot.chunk
  pub start : slot.offset ≡ tail_start size alignment run.end
  pub chosen : IsChosenRun (IsFreeIn s) (chunk_bytes s) size alignment run

-- a search looks at few free runs, as `AreFewLooks` bounds them
abbrev pub LooksAtFew : FitSpace → ℕ → ℕ → ℕ → ℕ → Type 0
LooksAtFew s size alignment old new =
    (looks : ℕ) × ((new ≡ old + looks) × AreFewLooks (IsFreeIn s) size alignment looks)

-- the block begins a chunk that was not held
pub record BeginsFitChunk (s : FitSpace) (size : ℕ) (slot : Slot) : Type 0 where
  pub exact : slot.size ≡ size
  pub start : slot.offset ≡ 0
  pub free_key : map.get s.chunks slot.chunk ≡ None

-- one more block is live
abbrev pub with_slot : FitSpace → Slot → FitSpace
with_slot s slot = record s { live = set.insert s.live slot }

-- one block fewer
abbrev pub without_slot : FitSpace → Slot → FitSpace
without_slot s slot = record s { live = set.remove s.live slot }

-- one more chunk is held, of the block's object
abbrev pub with_chunk : FitSpace → Slot → ℕ → FitSpace
with_chunk s slot size =
    record s { chunks = map.insert s.chunks slot.chunk (record { object = slot.object; size = size }) }

-- one chunk fewer
abbrev pub without_chunk : FitSpace → ℕ → FitSpace
without_chunk s key = record s { chunks = map.remove s.chunks key }

-- the chunk is held, and no block in it is live
pub record IsWhollyFree (s : FitSpace) (key : ℕ) : Type 0 where
  pub held : IsSome (map.get s.chunks key)
  pub unused : (slot : Slot) → IsLiveSlot s slot → slot.chunk ≢ key

-- the chunk is wholly free, and another one is too
pub record IsSpare (s : FitSpace) (key : ℕ) : Type 0 where
  pub free : IsWhollyFree s key
  pub other : ℕ
  pub differs : other ≢ key
  pub other_free : IsWhollyFree s other

-- no held chunk is of this object
abbrev pub IsUnheld : FitSpace → ℕ → Type 0
IsUnheld s object = (key : ℕ) (chunk : Chunk) → map.get s.chunks key ≡ Some chunk → chunk.object ≢ object

-- the range is a free run of the chunk of its object
pub record IsFitRunOf (s : FitSpace) (r : FreeRange) : Type 0 where
  pub key : ℕ
  pub chunk : Chunk
  pub held : map.get s.chunks key ≡ Some chunk
  pub object : chunk.object ≡ r.object
  pub run : IsFreeRun (IsFreeIn s) key r.start r.end

-- a live block is not empty, and lies in its chunk
pub record LiesInChunk (s : FitSpace) (slot : Slot) : Type 0 where
  pub chunk : Chunk
  pub held : map.get s.chunks slot.chunk ≡ Some chunk
  pub object : slot.object ≡ chunk.object
  pub nonempty : 0 < slot.size
  pub inside : slot.offset + slot.size ≤ chunk.size

-- chunks have objects of their own, live blocks are apart, and at most one chunk is wholly free
pub record IsSoundFitSpace (s : FitSpace) : Type 0 where
  pub one_object : (i k : ℕ) (c d : Chunk) → map.get s.chunks i ≡ Some c → map.get s.chunks k ≡ Some d
      → c.object ≡ d.object → i ≡ k
  pub sizes : (k : ℕ) (c : Chunk) → map.get s.chunks k ≡ Some c → (0 < c.size) × (c.size < 2 ^ 64)
  pub inside : (slot : Slot) → IsLiveSlot s slot → LiesInChunk s slot
  pub apart : (x y : Slot) → IsLiveSlot s x → IsLiveSlot s y → x.chunk ≡ y.chunk → (at : ℕ) → IsIn x.offset x.size at
      → IsIn y.offset y.size at → x ≡ y
  pub one_free : (i k : ℕ) → IsWhollyFree s i → IsWhollyFree s k → i ≡ k

-- Neighbours.

-- how many neighbours a block has in its chunk, which has this many bytes: one before it unless it begins the chunk,
-- and one after it unless it ends the chunk. A neighbour is a free run or a live block
abbrev pub neighbours_in : ℕ → ℕ → ℕ → ℕ
neighbours_in whole start end = cond (start == 0) 0 1 + cond (end == whole) 0 1

abbrev pub neighbours : FitSpace → Slot → ℕ
neighbours s slot = neighbours_in (chunk_bytes s slot.chunk) slot.offset (slot.offset + slot.size)

-- the region is the bytes of a live block
pub record IsOfBlock (s : FitSpace) (r : FreeListRegion) : Type 0 where
  pub slot : Slot
  pub live : IsLiveSlot s slot
  pub chunk : slot.chunk ≡ r.chunk
  pub start : slot.offset ≡ r.start
  pub end : slot.offset + slot.size ≡ r.end

-- it is a free run or a live block
abbrev pub IsRunOrBlock : FitSpace → FreeListRegion → Type 0
IsRunOrBlock s r = IsFreeRun (IsFreeIn s) r.chunk r.start r.end ⊎ IsOfBlock s r

-- 1 for a region, 0 for none
abbrev pub count_of : Option FreeListRegion → ℕ
count_of None = 0
count_of (Some r) = 1

-- at most one free run or live block of its chunk ends where the block starts, at most one starts where it ends, and
-- they are as many as `neighbours` counts
pub record HasNeighbours (s : FitSpace) (slot : Slot) : Type 0 where
  pub left : Option FreeListRegion
  pub right : Option FreeListRegion
  pub ends : (r : FreeListRegion) → (left ≡ Some r)
      ↔ (IsRunOrBlock s r × (r.chunk ≡ slot.chunk) × (r.end ≡ slot.offset))
  pub starts : (r : FreeListRegion) → (right ≡ Some r)
      ↔ (IsRunOrBlock s r × (r.chunk ≡ slot.chunk) × (r.start ≡ slot.offset + slot.size))
  pub count : neighbours s slot ≡ count_of left + count_of right

-- Blocks in hand.

-- the bytes of a block
abbrev pub bytes_of : Slot → Bytes
bytes_of slot = record { object = slot.object; offset = slot.offset; size = slot.size }

-- a call that takes no block keeps each block that was in hand
abbrev pub Leaves : FitSpace → FitSpace → Type 0
Leaves s new = in_hand.Leaves bytes_of s.live new.live

-- a grant adds its block
abbrev pub Adds : FitSpace → FitSpace → Slot → Type 0
Adds s new slot = in_hand.Adds bytes_of s.live new.live slot

-- a return removes its block, and no other
abbrev pub Removes : FitSpace → Slot → FitSpace → Type 0
Removes s slot new = in_hand.Removes bytes_of s.live slot new.live
