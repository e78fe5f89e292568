-- Blocks in the shared chunks of a memory type's free list, in terms of the whole allocator's state.
use Rattle.std.specs.Prelude.{◌≡◌, ℕ, zero, suc, ◌+◌, ◌-◌, ◌<◌, ◌^◌, List, [], ◌∷◌, Option, Some, None, max, slice_get}
use Rattle.std.specs.FinMap as map
use Rattle.gpu_alloc_types.specs.Properties.{heap_size, atom_of, is_host_visible}
use Rattle.gpu_alloc_block.specs.declared.block.Kind.TheVariants.{FreeListChunk}
use Rattle.gpu_alloc_base.specs.declared.region.FreeListRegion.{FreeListRegion}
use Rattle.gpu_alloc.specs.declared.request.Request.{Request}
use Rattle.gpu_alloc_base.specs.FreeRuns.{IsListPlace, IsLastWithRoom, tail_start}
use Rattle.gpu_alloc.specs.FreeBytes.{IsFreeByte}
use Rattle.gpu_alloc_base.specs.NewChunk.{ChunkQuestion, flags_of}
use Rattle.gpu_alloc_base.specs.Sizes.{up, final_size, grown_chunk, doubled_chunk}
use Rattle.gpu_alloc_block.specs.State.{HeldObject, Span, Block, TypeState, State, granted_block}

-- the size of a block for a request, in whole atoms
abbrev pub list_size : State → Request → ℕ → ℕ
list_size s r t = up r.size (atom_of s.properties t)

-- the alignment of a block: the greater of the request's and the atom
abbrev pub list_alignment : State → Request → ℕ → ℕ
list_alignment s r t = max (r.align_mask + 1) (atom_of s.properties t)

-- the object is held as the chunk with this number of the memory type's free list
pub record IsListChunk (s : State) (t number object : ℕ) : Type 0 where
  pub chunk : HeldObject
  pub held : map.get s.held object ≡ Some chunk
  pub of_type : chunk.memory_type ≡ t
  pub of_kind : chunk.kind ≡ FreeListChunk number

-- the byte of the chunk with this number is free
abbrev pub IsFreeInChunk : State → ℕ → ℕ → ℕ → Type 0
IsFreeInChunk s t number at = (object : ℕ) × IsFreeByte s t (FreeListChunk number) object at

-- there is room for a block of this size, at a multiple of the alignment, in a held free-list chunk of the memory type
abbrev pub HasListPlace : State → ℕ → ℕ → ℕ → Type 0
HasListPlace s t size alignment = (number start : ℕ) × IsListPlace (IsFreeInChunk s t) size alignment number start

-- the span is the tail of the last run that has room, from the last aligned start that leaves the size
pub record IsRunTail (s : State) (t size alignment number : ℕ) (span : Span) : Type 0 where
  pub run : FreeListRegion
  pub last : IsLastWithRoom (IsFreeInChunk s t) size alignment run
  pub in_chunk : run.chunk ≡ number
  pub start : span.offset ≡ tail_start size alignment run.end
  pub end : span.offset + span.size ≡ run.end
  pub chunk : IsListChunk s t number span.object

-- The least size of a memory type's next free-list chunk, and the number of its latest one; 0 where there is no such
-- type.

abbrev pub list_chunk_of : Option TypeState → ℕ
list_chunk_of None = 0
list_chunk_of (Some type) = type.list_chunk

abbrev pub number_of : Option TypeState → ℕ
number_of None = 0
number_of (Some type) = type.number

abbrev pub next_list_chunk : State → ℕ → ℕ
next_list_chunk s t = list_chunk_of (slice_get s.types t)

abbrev pub latest_number : State → ℕ → ℕ
latest_number s t = number_of (slice_get s.types t)

-- the largest free-list chunk of a memory type
abbrev pub largest_list_chunk : State → ℕ → ℕ
largest_list_chunk s t = final_size s.config (heap_size s.properties t) (atom_of s.properties t)

-- the question for a chunk with a block of this size at its tail
abbrev pub list_question : State → ℕ → ℕ → ChunkQuestion
list_question s t size = record {
  size = grown_chunk (next_list_chunk s t) (largest_list_chunk s t) size;
  memory_type = t;
  flags = flags_of s.properties;
  mapped = is_host_visible s.properties t;
}

-- a number is left for one more chunk
abbrev pub HasListNumber : State → ℕ → Type 0
HasListNumber s t = latest_number s t + 1 < 2 ^ 64

-- an unmapped block of a free-list chunk
abbrev pub list_block : State → ℕ → ℕ → Span → Block
list_block s t number span = granted_block s t (FreeListChunk number) span

-- the tail of an unused object
abbrev pub tail_of : ℕ → ℕ → ℕ → ℕ → Span
tail_of object whole size alignment =
    record { object = object; offset = tail_start size alignment whole; size = whole - tail_start size alignment whole }

-- a memory type's next free-list chunk will have at least this size, and its latest one has the next number
unfoldable pub with_next_list : List TypeState → ℕ → ℕ → List TypeState
with_next_list [] t size = []
with_next_list (type ∷ types) zero size = record type { list_chunk = size; number = type.number + 1 } ∷ types
with_next_list (type ∷ types) (suc t) size = type ∷ with_next_list types t size

-- one more free-list chunk is held
abbrev pub with_list_chunk : State → ℕ → ℕ → ℕ → State
with_list_chunk s t object size = record s {
  held = map.insert s.held object
      (record { memory_type = t; counted = size; kind = FreeListChunk (latest_number s t + 1) });
  remaining = s.remaining - 1;
  types = with_next_list s.types t (doubled_chunk (largest_list_chunk s t) size);
}
