-- The live blocks of a free list, as contracts see them.
use Rattle.std.specs.Prelude.{◌≡◌, ℕ, ◌-◌, List}
use Rattle.std.specs.FinSet as set
use Rattle.slab.specs.Slab.{Slab, entries, slab_len}
use Rattle.gpu_alloc_base.specs.SlabViews.{set_by, HasOneKeyEach}
use Rattle.gpu_alloc_base.specs.Slots.{slot_cmp}
use Rattle.gpu_alloc_base.specs.declared.free_list_block.Slot.{Slot}

-- the live blocks, how many they are, and how many more there is room for
pub record LiveBlocks : Type 0 where
  pub slots : set.FinSet slot_cmp
  pub count : ℕ
  pub room : ℕ

-- the blocks of a slab, under any keys
abbrev pub slots_in : Slab Slot → set.FinSet slot_cmp
slots_in slots = set_by (λ slot. slot) slots

abbrev pub live_blocks_in : Slab Slot → LiveBlocks
live_blocks_in slots = record { slots = slots_in slots; count = slab_len slots; room = slots.capacity - slab_len slots }

-- these are the live blocks, each once, with their keys
pub record ListsSlots (live : set.FinSet slot_cmp) (listed : List (ℕ × Slot)) : Type 0 where
  pub slots : Slab Slot
  pub are : listed ≡ entries slots
  pub once : HasOneKeyEach (λ slot. slot) slots
  pub exact : live ≡ slots_in slots
