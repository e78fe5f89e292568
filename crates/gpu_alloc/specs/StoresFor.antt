-- What each store is for a memory type, between calls.
use Rattle.std.specs.Prelude.{◌≡◌, ℕ, Some}
use Rattle.std.specs.FinMap as map_of
use Rattle.gpu_alloc_types.specs.Properties.{Properties, heap_size, props_at, atom_of}
use Rattle.gpu_alloc_base.specs.Chunks.{Chunk}
use Rattle.gpu_alloc_base.specs.Sizes.{minimal_size, final_size}
use Rattle.gpu_alloc_base.specs.declared.config.Config.{Config}
use Rattle.gpu_alloc_buddy.specs.BuddySound.{IsSoundBuddy}
use Rattle.gpu_alloc_buddy.specs.BuddyState.{Buddy}
use Rattle.gpu_alloc_fit.specs.Fit.{FitState}
use Rattle.gpu_alloc_fit.specs.FitSound as fit
use Rattle.gpu_alloc_freelist.specs.FreeListSound as list
use Rattle.gpu_alloc_freelist.specs.FreeListState.{FreeListState}
use Rattle.gpu_alloc.specs.FitSharing.{IsFitChunkSize, grain, largest_fit}

-- A buddy allocator.

-- what a memory type's buddy allocator was given
pub record IsForType (c : Config) (p : Properties) (index : ℕ) (b : Buddy) : Type 0 where
  pub memory_type : b.memory_type ≡ index
  pub props : b.props ≡ props_at p index
  pub atom : b.atom ≡ atom_of p index
  pub minimal : b.minimal ≡ minimal_size c (heap_size p index)

-- and it is sound
pub record IsBuddyFor (c : Config) (p : Properties) (index : ℕ) (b : Buddy) : Type 0 where
  pub for_type : IsForType c p index b
  pub sound : IsSoundBuddy b

-- A free list.

-- what a memory type's free list was given
pub record IsListForType (c : Config) (p : Properties) (index : ℕ) (l : FreeListState) : Type 0 where
  pub memory_type : l.memory_type ≡ index
  pub props : l.props ≡ props_at p index
  pub atom : l.atom ≡ atom_of p index
  pub final_chunk : l.final_chunk ≡ final_size c (heap_size p index) (atom_of p index)

-- and it is sound
pub record IsListFor (c : Config) (p : Properties) (index : ℕ) (l : FreeListState) : Type 0 where
  pub for_type : IsListForType c p index l
  pub sound : list.IsSoundFreeList l

-- An allocator of fit chunks.

-- what a memory type's allocator of fit chunks was given
pub record IsFitForType (c : Config) (p : Properties) (index : ℕ) (f : FitState) : Type 0 where
  pub memory_type : f.memory_type ≡ index
  pub props : f.props ≡ props_at p index
  pub atom : f.atom ≡ grain (atom_of p index)
  pub final_chunk : f.final_chunk ≡ largest_fit c (heap_size p index) (grain (atom_of p index))

-- its chunks and its next one have sizes that fit chunks can have
pub record HasFitSizes (c : Config) (p : Properties) (index : ℕ) (f : FitState) : Type 0 where
  pub next : IsFitChunkSize c (heap_size p index) (grain (atom_of p index)) f.next_chunk
  pub chunks : (key : ℕ) (chunk : Chunk) → map_of.get f.space.chunks key ≡ Some chunk
      → IsFitChunkSize c (heap_size p index) (grain (atom_of p index)) chunk.size

-- and it is sound
pub record IsFitFor (c : Config) (p : Properties) (index : ℕ) (f : FitState) : Type 0 where
  pub for_type : IsFitForType c p index f
  pub sized : HasFitSizes c p index f
  pub sound : fit.IsSoundFit f
