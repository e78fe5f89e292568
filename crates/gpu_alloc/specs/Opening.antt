-- An allocator when it is opened.
use Rattle.std.specs.Prelude.{◌≡◌, ℕ, List, IfSome, map as map_list, slice_get}
use Rattle.std.specs.FinMap as map
use Rattle.std.specs.FinSet as set
use Rattle.gpu_alloc_types.specs.Properties.{Properties, heap_size, props_at, atom_of}
use Rattle.gpu_alloc_types.specs.declared.types.MemoryHeap.{MemoryHeap}
use Rattle.gpu_alloc_buddy.specs.Buddy as buddy
use Rattle.gpu_alloc_buddy.specs.BuddySound.{IsSoundBuddy}
use Rattle.gpu_alloc_buddy.specs.BuddyState.{Buddy}
use Rattle.gpu_alloc_fit.specs.Fit as fit
use Rattle.gpu_alloc_fit.specs.Fit.{FitState}
use Rattle.gpu_alloc_fit.specs.FitSound as fit_sound
use Rattle.gpu_alloc_freelist.specs.FreeListAllocator as list
use Rattle.gpu_alloc_freelist.specs.FreeListSound as list_sound
use Rattle.gpu_alloc_freelist.specs.FreeListState.{FreeListState}
use Rattle.gpu_alloc_block.specs.State.{State}
use Rattle.gpu_alloc_block.specs.declared.sharing.Sharing.{Sharing}
use Rattle.gpu_alloc_block.specs.declared.sharing.Sharing.TheVariants.{Buddy as SharingBuddy, Fit as SharingFit}
use Rattle.gpu_alloc_base.specs.Sizes.{minimal_size, initial_size, starting_size, final_size}
use Rattle.gpu_alloc.specs.FirstTypes.{first_types}
use Rattle.gpu_alloc.specs.FitSharing.{grain, largest_fit}
use Rattle.gpu_alloc_base.specs.declared.config.Config.{Config}
use Rattle.gpu_alloc.specs.declared.allocator.stores.Chosen.{Chosen}
use Rattle.gpu_alloc.specs.declared.allocator.stores.Chosen.TheVariants.{Buddy as InBuddies, Fit as InFits}
use Rattle.gpu_alloc.specs.declared.allocator.stores.TypeStores.{TypeStores}

-- the size of an offered heap
abbrev pub size_of_heap : MemoryHeap → ℕ
size_of_heap heap = heap.size

-- nothing is held or live, as many objects and bytes may be held as the device allows, and the chunk sizes are the
-- initial ones
abbrev pub opened_by : Sharing → Config → Properties → State
opened_by sharing c p = record {
  held = map.empty;
  live = set.empty;
  remaining = p.max_memory_allocation_count;
  heap_limits = map_list size_of_heap p.memory_heaps;
  types = first_types c p;
  sharing = sharing;
  config = c;
  properties = p;
}

-- where nothing is chosen, requests share buddy chunks
abbrev pub opened : Config → Properties → State
opened c p = opened_by SharingBuddy c p

-- a memory type's buddy allocator, with no chunk
abbrev pub first_buddy : Config → Properties → ℕ → Buddy
first_buddy c p t =
    let heap = heap_size p t in
    buddy.opened (minimal_size c heap) (initial_size c heap) t (props_at p t) (atom_of p t)

-- a memory type's free list, with no chunk
abbrev pub first_listing : Config → Properties → ℕ → FreeListState
first_listing c p t =
    let heap = heap_size p t in
    let atom = atom_of p t in
    list.opened (starting_size c heap atom) (final_size c heap atom) t (props_at p t) atom

-- a memory type's allocator of fit chunks, with no chunk
abbrev pub first_fitting : Config → Properties → ℕ → FitState
first_fitting c p t =
    let heap = heap_size p t in
    let g = grain (atom_of p t) in
    fit.opened (starting_size c heap g) (largest_fit c heap g) t (props_at p t) g

module _ {M X : Type 0} where
  -- a memory type's store of the kind that is chosen, with no chunk
  abbrev pub IsFirstStore : Sharing → Config → Properties → ℕ → Chosen M X → Type 0
  IsFirstStore sharing c p t (InBuddies b) = (sharing ≡ SharingBuddy) × ((b ≡ first_buddy c p t) × IsSoundBuddy b)
  IsFirstStore sharing c p t (InFits f) = (sharing ≡ SharingFit) × ((f ≡ first_fitting c p t) × fit_sound.IsSoundFit f)

  abbrev pub AreFirst : Sharing → Config → Properties → List (TypeStores M X) → Type 0
  AreFirst sharing c p stores = (t : ℕ) → IfSome (slice_get stores t) (λ e. IsFirstStore sharing c p t e.chosen
      × ((e.free_list ≡ first_listing c p t) × list_sound.IsSoundFreeList e.free_list))
