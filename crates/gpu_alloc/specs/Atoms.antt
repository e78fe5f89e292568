-- Invariants of atoms and of free-list chunks, from which it follows that grants are of whole atoms.
use Rattle.std.specs.Prelude.{ℕ, ◌^◌, ◌<◌, ◌≤◌, length}
use Rattle.gpu_alloc_types.specs.Properties.{atom_of}
use Rattle.gpu_alloc_base.specs.FreeSpace.{IsMultipleOf, IsPowerOfTwo}
use Rattle.gpu_alloc.specs.FitSharing.{largest_fit_chunk, next_fit_chunk}
use Rattle.gpu_alloc.specs.FreeListSharing.{IsListChunk, next_list_chunk, largest_list_chunk}
use Rattle.gpu_alloc_block.specs.State.{Span, State, IsLive}

-- a memory type's next free-list chunk has some whole atoms, and is no larger than the largest
pub record IsNextListChunk (s : State) (t : ℕ) : Type 0 where
  pub some : 0 < next_list_chunk s t
  pub whole : IsMultipleOf (atom_of s.properties t) (next_list_chunk s t)
  pub most : next_list_chunk s t ≤ largest_list_chunk s t
  pub bound : largest_list_chunk s t ≤ 2 ^ 62

-- a memory type's next fit chunk has some bytes, and is no larger than the largest
pub record IsNextFitChunk (s : State) (t : ℕ) : Type 0 where
  pub some : 0 < next_fit_chunk s t
  pub most : next_fit_chunk s t ≤ largest_fit_chunk s t
  pub bound : largest_fit_chunk s t ≤ 2 ^ 62

-- between calls atoms are powers of two, and free-list chunks and the blocks in them keep to them
pub record KeepsAtoms (s : State) : Type 0 where
  -- an atom is a power of two
  pub atom : (t : ℕ) → IsPowerOfTwo (atom_of s.properties t)
  -- a free-list chunk ends at a multiple of the atom, and each live span in it begins at one
  pub ends : (t number object : ℕ) (is : IsListChunk s t number object)
      → IsMultipleOf (atom_of s.properties t) is.chunk.counted
  pub begins : (t number : ℕ) (span : Span) → IsListChunk s t number span.object → IsLive s span
      → IsMultipleOf (atom_of s.properties t) span.offset
  -- the least sizes of its next chunks
  pub next : (t : ℕ) → t < length s.properties.memory_types → IsNextListChunk s t
  pub next_fit : (t : ℕ) → t < length s.properties.memory_types → IsNextFitChunk s t
