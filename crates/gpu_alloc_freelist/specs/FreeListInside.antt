-- The invariants of the fields of a free list.
use Rattle.std.specs.Prelude.{◌≡◌, ℕ, ◌+◌, ◌/◌, ◌<◌, ◌≤◌, Bool, true, List, length, min, get_or}
use Rattle.std.specs.FinSet as set
use Rattle.gpu_alloc_base.specs.Accounts.{HeldChunks}
use Rattle.gpu_alloc_freelist.specs.FreeListState.{ListSpace, ListStore, IsFreeIn}
use Rattle.gpu_alloc_freelist.specs.Chunks.{IsWholeChunk}
use Rattle.gpu_alloc_base.specs.Slots.{slot_cmp}
use Rattle.gpu_alloc_freelist.specs.FreeListSound.{IsSoundListSpace}
use Rattle.gpu_alloc_base.specs.FreeRuns.{AreRuns}
use Rattle.gpu_alloc_freelist.specs.Wholes.{wholes}
use Rattle.gpu_alloc_base.specs.declared.region.FreeListRegion.{FreeListRegion}

abbrev pub list_space_in : HeldChunks → set.FinSet slot_cmp → ℕ → ListSpace
list_space_in chunks live latest = record { chunks = chunks; live = live; latest = latest }

-- How many more chunks with a block each there is room for, given what three stores can still take: each brings a
-- chunk, a block and up to two runs.
abbrev pub room_for : ℕ → ℕ → ℕ → ℕ
room_for chunks live runs = min chunks (min live (runs / 2))

abbrev pub list_store_in : ListSpace → ℕ → ListStore
list_store_in space room = record { space = space; room = room }

-- The regions are the free runs, there is room for one more run for each live block, and `counted` runs are whole
-- chunks.
pub record IsListed (s : ListSpace) (regions : List FreeListRegion) (live spare counted : ℕ) : Type 0 where
  pub sound : IsSoundListSpace s
  pub runs : AreRuns regions (IsFreeIn s)
  pub room : live ≤ spare
  pub whole : wholes s.chunks regions ≡ counted

-- How a chunk to release is found.

-- the run at this place is a whole chunk, and not the last run if that is to be kept
pub record MayBeTaken (held : HeldChunks) (regions : List FreeListRegion) (keep_last : Bool) (d : FreeListRegion) (i : ℕ)
    : Type 0 where
  pub within : i < length regions
  pub whole : IsWholeChunk held (get_or regions i d)
  pub not_last : keep_last ≡ true → i + 1 < length regions

pub record IsFirstWhole (held : HeldChunks) (regions : List FreeListRegion) (keep_last : Bool) (d : FreeListRegion) (i : ℕ)
    : Type 0 where
  pub taken : MayBeTaken held regions keep_last d i
  pub earlier : (j : ℕ) → j < i → MayBeTaken held regions keep_last d j → ⊥
