-- A free list that holds nothing.
use Rattle.std.proofs.Common.{◌≡◌, ℕ, [], None, Some, refl, arith}
use Rattle.std.specs.FinMap as map
use Rattle.std.specs.Ordering.{nat_cmp}
use Rattle.gpu_alloc_base.specs.Chunks.{Chunk}
use Rattle.gpu_alloc_freelist.specs.FreeList.{no_list_space}
use Rattle.gpu_alloc_freelist.specs.FreeListInside.{IsListed}
use Rattle.gpu_alloc_freelist.specs.FreeListSound.{IsSoundListSpace}
use Rattle.gpu_alloc_freelist.specs.FreeListState.{IsLiveSlot}
use Rattle.gpu_alloc_base.specs.declared.free_list_block.Slot.{Slot}
use Rattle.gpu_alloc_base.proofs.Lists.{contains_none}
use Rattle.gpu_alloc_base.proofs.Slots.{in_slots}

pub none_live : (slot : Slot) → IsLiveSlot no_list_space slot → ⊥
none_live slot live = contains_none slot ((in_slots [] slot).0 live)

pub none_held : (k : ℕ) (chunk : Chunk) → map.get no_list_space.chunks k ≡ Some chunk → ⊥
none_held k chunk is = let none : map.get no_list_space.chunks k ≡ None = map.get-empty nat_cmp k in cc

pub sound_space : IsSoundListSpace no_list_space
sound_space = record {
  numbers = λ k c is. absurd (none_held k c is);
  sizes = λ k c is. absurd (none_held k c is);
  inside = λ slot live. absurd (none_live slot live);
  apart = λ x y x_live y_live same at in_x in_y. absurd (none_live x x_live);
}

-- no byte is free, and there are no runs
pub listed_none : IsListed no_list_space [] 0 0 0
listed_none = record {
  sound = sound_space;
  runs = record {
    spaced = record {
      nonempty = λ r has. absurd (contains_none r has);
      apart = λ r s has_r has_s same from to. absurd (contains_none r has_r);
      free = λ r has at from to. absurd (contains_none r has);
      covers = λ chunk at free. absurd (none_held chunk free.held free.is);
    };
    rising = λ i j d less within. absurd (omega arith);
  };
  room = omega arith;
  whole = refl;
}
