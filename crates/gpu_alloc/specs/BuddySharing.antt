-- Blocks in the shared chunks of a memory type's buddy allocator, in terms of the whole allocator's state.
use Rattle.std.specs.Prelude.{◌≡◌, ℕ, zero, suc, ◌+◌, ◌-◌, ◌*◌, ◌≤◌, List, [], ◌∷◌, Option, Some, None, max, slice_get}
use Rattle.std.specs.FinMap as map
use Rattle.std.specs.FinSet as set
use Rattle.gpu_alloc_types.specs.Properties.{heap_size, atom_of, is_host_visible}
use Rattle.gpu_alloc_block.specs.declared.block.Kind.TheVariants.{BuddyChunk}
use Rattle.gpu_alloc.specs.declared.request.Request.{Request}
use Rattle.gpu_alloc_base.specs.FreeSpace.{IsPlace, IsFreePiece}
use Rattle.gpu_alloc.specs.FreeBytes.{IsFreeByte}
use Rattle.gpu_alloc_base.specs.NewChunk.{ChunkQuestion, flags_of}
use Rattle.gpu_alloc_base.specs.Sizes.{next_power_of_two, minimal_size}
use Rattle.gpu_alloc_block.specs.State.{Span, Block, TypeState, State, granted_block}

-- the size of a block for a request: the least power of two that is not below the request's size and alignment, the
-- atom and the smallest buddy block
abbrev pub buddy_size : State → Request → ℕ → ℕ
buddy_size s r t =
    next_power_of_two (max (max r.size (r.align_mask + 1))
    (max (atom_of s.properties t) (minimal_size s.config (heap_size s.properties t))))

-- there is room for a block of this size in a held buddy chunk of the memory type
abbrev pub HasBuddyPlace : State → ℕ → ℕ → Type 0
HasBuddyPlace s t size = (object start : ℕ) × IsPlace (IsFreeByte s t BuddyChunk) object start size

-- the span is the front of a shortest free piece that is long enough
pub record IsPieceFront (s : State) (t size : ℕ) (span : Span) : Type 0 where
  pub of_size : span.size ≡ size
  pub length : ℕ
  pub piece : IsFreePiece (IsFreeByte s t BuddyChunk) span.object span.offset length
  pub enough : size ≤ length
  pub shortest : (object start other : ℕ) → IsFreePiece (IsFreeByte s t BuddyChunk) object start other → size ≤ other
      → length ≤ other

-- the least size of a memory type's next buddy chunk, 0 where there is no such type
abbrev pub next_chunk_of : Option TypeState → ℕ
next_chunk_of None = 0
next_chunk_of (Some type) = type.next_chunk

-- the question for a chunk with a block of this size at its front: two blocks, and at least the next chunk's least size
abbrev pub buddy_question : State → ℕ → ℕ → ChunkQuestion
buddy_question s t size = record {
  size = max (next_chunk_of (slice_get s.types t)) (2 * size);
  memory_type = t;
  flags = flags_of s.properties;
  mapped = is_host_visible s.properties t;
}

-- an unmapped block of a buddy chunk
abbrev pub buddy_block : State → ℕ → Span → Block
buddy_block s t span = granted_block s t BuddyChunk span

-- the front of an object
abbrev pub object_front : ℕ → ℕ → Span
object_front object size = record { object = object; offset = 0; size = size }

-- one more span is live
abbrev pub with_span : State → Span → State
with_span s span = record s { live = set.insert s.live span }

-- a memory type's next buddy chunk will be at least this large
unfoldable pub with_next_chunk : List TypeState → ℕ → ℕ → List TypeState
with_next_chunk [] t size = []
with_next_chunk (type ∷ types) zero size = record type { next_chunk = size } ∷ types
with_next_chunk (type ∷ types) (suc t) size = type ∷ with_next_chunk types t size

-- one more buddy chunk is held
abbrev pub with_buddy_chunk : State → ℕ → ℕ → ℕ → State
with_buddy_chunk s t object size = record s {
  held = map.insert s.held object (record { memory_type = t; counted = size; kind = BuddyChunk });
  remaining = s.remaining - 1;
  types = with_next_chunk s.types t size;
}
