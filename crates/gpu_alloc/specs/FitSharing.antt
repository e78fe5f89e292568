-- Blocks in the fit chunks of a memory type, in terms of the whole allocator's state.
use Rattle.std.specs.Prelude.{◌≡◌, ℕ, zero, suc, ◌+◌, ◌-◌, ◌*◌, ◌/◌, ◌^◌, ◌<◌, ◌≤◌, Bool, List, [], ◌∷◌, Option, Some, None, max, min, nat_le, slice_get}
use Rattle.std.specs.FinMap as map
use Rattle.gpu_alloc_types.specs.Properties.{heap_size, atom_of, is_host_visible}
use Rattle.gpu_alloc_block.specs.declared.block.Kind.TheVariants.{FitChunk}
use Rattle.gpu_alloc.specs.declared.request.Request.{Request}
use Rattle.gpu_alloc_base.specs.FreeRuns.{AreFree, IsListPlace, tail_start}
use Rattle.gpu_alloc_base.specs.FreeSpace.{IsMultipleOf}
use Rattle.gpu_alloc.specs.FreeBytes.{IsFreeByte}
use Rattle.gpu_alloc_base.specs.NewChunk.{ChunkQuestion, flags_of}
use Rattle.gpu_alloc_base.specs.Sizes.{up, down, starting_size, final_size, grown_chunk, doubled_chunk}
use Rattle.gpu_alloc_base.specs.declared.config.Config.{Config}
use Rattle.gpu_alloc_base.specs.declared.region.FreeListRegion.{FreeListRegion}
use Rattle.gpu_alloc_runs.specs.Choice.{IsChosenRun}
use Rattle.gpu_alloc_block.specs.State.{HeldObject, Span, Block, TypeState, State, granted_block}

-- The grain of fit chunks, in bytes: 256, or the atom where that is larger. Fit chunks have whole grains, and blocks in
-- them start and end at multiples of it.
abbrev pub grain : ℕ → ℕ
grain atom = max 256 atom

abbrev pub grain_of : State → ℕ → ℕ
grain_of s t = grain (atom_of s.properties t)

-- Sizes, for a memory type with this grain in a heap of this size.

-- the first fit chunk's size, as configured; 0 where that is below the grain
abbrev pub first_fit : Config → ℕ → ℕ → ℕ
first_fit c heap g = down (min c.starting_free_list_chunk (heap / 32)) g

-- the largest fit chunk: four times the first, and no larger than the largest free-list chunk
abbrev pub largest_fit : Config → ℕ → ℕ → ℕ
largest_fit c heap g = min (4 * starting_size c heap g) (final_size c heap g)

-- a size that a fit chunk can have: that of the first, doubled any number of times and capped at the largest
abbrev pub IsFitChunkSize : Config → ℕ → ℕ → ℕ → Type 0
IsFitChunkSize c heap g size = (n : ℕ) × (size ≡ min (starting_size c heap g * 2 ^ n) (largest_fit c heap g))

-- what such a size is: some whole grains, no less than the first and at most four times as much, and no more than a
-- 32nd of the heap or a single grain
pub record IsSmallChunk (c : Config) (heap g size : ℕ) : Type 0 where
  pub whole : IsMultipleOf g size
  pub least : starting_size c heap g ≤ size
  pub four_times : size ≤ 4 * starting_size c heap g
  pub part : size ≤ max g (heap / 32)

-- what these sizes guarantee: the first chunk has room for every request that shares one, and a later one is no smaller
-- and at most four times as large. None is larger than a 32nd of the heap or a single grain
pub record AreSmall (c : Config) (heap g : ℕ) : Type 0 where
  pub room : first_fit c heap g ≤ starting_size c heap g
  pub grows : starting_size c heap g ≤ largest_fit c heap g
  pub four_times : largest_fit c heap g ≤ 4 * starting_size c heap g
  pub part : largest_fit c heap g ≤ max g (heap / 32)

-- every configuration has such sizes
pub record FitChunksAreSmall : Type 0 where
  pub each : (c : Config) (heap g : ℕ) → 0 < g → AreSmall c heap g

-- the sizes of a memory type's fit chunks
abbrev pub IsFitSize : State → ℕ → ℕ → Type 0
IsFitSize s t size = IsFitChunkSize s.config (heap_size s.properties t) (grain_of s t) size

abbrev pub IsSmallFit : State → ℕ → ℕ → Type 0
IsSmallFit s t size = IsSmallChunk s.config (heap_size s.properties t) (grain_of s t) size

-- the size of a block for a request, in whole grains
abbrev pub fit_size : State → Request → ℕ → ℕ
fit_size s r t = up r.size (grain_of s t)

-- the alignment of a block: the greater of the request's and the grain
abbrev pub fit_alignment : State → Request → ℕ → ℕ
fit_alignment s r t = max (r.align_mask + 1) (grain_of s t)

-- in whole grains the request is no larger than the first fit chunk
abbrev pub fits_first : State → Request → ℕ → Bool
fits_first s r t = nat_le (fit_size s r t) (first_fit s.config (heap_size s.properties t) (grain_of s t))

-- the object is held as a fit chunk of the memory type
pub record IsFitChunk (s : State) (t object : ℕ) : Type 0 where
  pub chunk : HeldObject
  pub held : map.get s.held object ≡ Some chunk
  pub of_type : chunk.memory_type ≡ t
  pub of_kind : chunk.kind ≡ FitChunk

-- there is room for a block of this size, at a multiple of the alignment, in a held fit chunk of the memory type
abbrev pub HasFitPlace : State → ℕ → ℕ → ℕ → Type 0
HasFitPlace s t size alignment = (object start : ℕ) × IsListPlace (IsFreeByte s t FitChunk) size alignment object start

-- how many bytes an object counts, 0 where none is held
abbrev pub counted_of : Option HeldObject → ℕ
counted_of None = 0
counted_of (Some object) = object.counted

abbrev pub object_bytes : State → ℕ → ℕ
object_bytes s object = counted_of (map.get s.held object)

-- the span has exactly this size, starts at a multiple of the alignment, and each byte of it is free: it is the last
-- such one in the free run that is chosen, whose chunk is the object
pub record IsInFreeRun (s : State) (t size alignment : ℕ) (span : Span) : Type 0 where
  pub exact : span.size ≡ size
  pub aligned : IsMultipleOf alignment span.offset
  pub chunk : IsFitChunk s t span.object
  pub free : AreFree (IsFreeByte s t FitChunk) span.object span.offset (span.offset + span.size)
  pub run : FreeListRegion
  pub in_chunk : run.chunk ≡ span.object
  pub start : span.offset ≡ tail_start size alignment run.end
  pub chosen : IsChosenRun (IsFreeByte s t FitChunk) (object_bytes s) size alignment run

-- the least size of a memory type's next fit chunk, 0 where there is no such type
abbrev pub fit_chunk_of : Option TypeState → ℕ
fit_chunk_of None = 0
fit_chunk_of (Some type) = type.fit_chunk

abbrev pub next_fit_chunk : State → ℕ → ℕ
next_fit_chunk s t = fit_chunk_of (slice_get s.types t)

-- the largest fit chunk of a memory type
abbrev pub largest_fit_chunk : State → ℕ → ℕ
largest_fit_chunk s t = largest_fit s.config (heap_size s.properties t) (grain_of s t)

-- the question for a chunk with a block of this size at its front
abbrev pub fit_question : State → ℕ → ℕ → ChunkQuestion
fit_question s t size = record {
  size = grown_chunk (next_fit_chunk s t) (largest_fit_chunk s t) size;
  memory_type = t;
  flags = flags_of s.properties;
  mapped = is_host_visible s.properties t;
}

-- an unmapped block of a fit chunk
abbrev pub fit_block : State → ℕ → Span → Block
fit_block s t span = granted_block s t FitChunk span

-- a memory type's next fit chunk will have at least this size
unfoldable pub with_next_fit : List TypeState → ℕ → ℕ → List TypeState
with_next_fit [] t size = []
with_next_fit (type ∷ types) zero size = record type { fit_chunk = size } ∷ types
with_next_fit (type ∷ types) (suc t) size = type ∷ with_next_fit types t size

-- one more fit chunk is held
abbrev pub with_fit_chunk : State → ℕ → ℕ → ℕ → State
with_fit_chunk s t object size = record s {
  held = map.insert s.held object (record { memory_type = t; counted = size; kind = FitChunk });
  remaining = s.remaining - 1;
  types = with_next_fit s.types t (doubled_chunk (largest_fit_chunk s t) size);
}
