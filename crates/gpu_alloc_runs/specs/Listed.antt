-- Lists of what a store holds.
use Rattle.std.specs.Prelude.{◌≡◌, ℕ, ◌++◌, List, map}
use Rattle.std.specs.FinSet as set
use Rattle.std.specs.List.{IsDistinct}
use Rattle.std.specs.Ordering.{eq_by_cmp}
use Rattle.gpu_alloc_base.specs.Accounts.{HeldChunks}
use Rattle.slab.specs.Slab.{Slab, entries}
use Rattle.gpu_alloc_base.specs.Slots.{slot_cmp}
use Rattle.gpu_alloc_base.specs.declared.buddy_block.Leaf.{Leaf}
use Rattle.gpu_alloc_base.specs.declared.free_list_block.Slot.{Slot}
use Rattle.gpu_alloc_runs.specs.Inside.{chunks_of_rows, leaf_of_slot}
use Rattle.gpu_alloc_runs.specs.declared.fits.Chunk.{Chunk as Row}

-- these are the held chunks, each once, with their keys
pub record ListsChunks {M : Type 0} (object : M → ℕ) (held : HeldChunks) (listed : List (ℕ × Row M)) : Type 0 where
  pub rows : Slab (Row M)
  pub are : listed ≡ entries rows
  pub exact : held ≡ chunks_of_rows object rows

-- a list has grown by the live blocks, each once
pub record AddsSlots (live : set.FinSet slot_cmp) (old new : List Leaf) : Type 0 where
  pub own : List Slot
  pub added : new ≡ old ++ map leaf_of_slot own
  pub exact : set.from_list own ≡ live
  pub once : IsDistinct (eq_by_cmp slot_cmp) own
