-- What a store whose blocks have any size keeps besides its space, and the sizes of what it gives out.
use Rattle.std.specs.Prelude.{◌≡◌, ℕ, ◌+◌, ◌-◌, ◌<◌, ◌≤◌, ◌^◌, Some, Bool, IsTrue, max, refl}
use Rattle.std.specs.Coded.{Coded, code_by, coded×, coded_ℕ}
use Rattle.std.specs.FinMap as map
use Rattle.std.specs.FinSet as set
use Rattle.gpu_alloc_types.specs.Flags.{has_bit, host_visible, property_bits}
use Rattle.gpu_alloc_base.specs.Accounts.{HeldChunks}
use Rattle.gpu_alloc_base.specs.AlignMasks.{IsAlignMask}
use Rattle.gpu_alloc_base.specs.Chunks.{Chunk}
use Rattle.gpu_alloc_base.specs.FreeSpace.{IsMultipleOf, IsPowerUpTo}
use Rattle.gpu_alloc_base.specs.NewChunk.{ChunkQuestion}
use Rattle.gpu_alloc_base.specs.Sizes.{doubled_chunk, grown_chunk, up}
use Rattle.gpu_alloc_base.specs.Slots.{slot_cmp}
use Rattle.gpu_alloc_base.specs.Wanted.{Wanted}
use Rattle.gpu_alloc_base.specs.declared.free_list_block.Slot.{Slot}
use Rattle.gpu_alloc_shared.specs.declared.chunk_sizes.ChunkSizes.{ChunkSizes}
use Rattle.gpu_alloc_shared.specs.declared.store.Ask.{Ask}

-- An allocator: its space, the next chunk's least size, the largest chunk, the memory type with its property bits, and
-- the atom, of which chunk and block sizes are multiples.
pub record SizedState (S : Type 0) : Type 0 where
  pub space : S
  pub next_chunk : ℕ
  pub final_chunk : ℕ
  pub memory_type : ℕ
  pub props : ℕ
  pub atom : ℕ

abbrev pub sized_in : {S : Type 0} → S → ℕ → ℕ → ℕ → ℕ → ℕ → SizedState S
sized_in space next_chunk final_chunk memory_type props atom = record {
  space = space;
  next_chunk = next_chunk;
  final_chunk = final_chunk;
  memory_type = memory_type;
  props = props;
  atom = atom;
}

-- a space with these sizes
abbrev pub sized : {S : Type 0} → S → ChunkSizes → SizedState S
sized space z = sized_in space z.chunk_size z.final_chunk_size z.memory_type (property_bits z.props) (z.atom_mask + 1)

abbrev pub sized_code : {S : Type 0} → Coded S → Coded (SizedState S)
sized_code {S} code =
    code_by (S × ((ℕ × ℕ) × (ℕ × (ℕ × ℕ))))
    (coded× code (coded× (coded× coded_ℕ coded_ℕ) (coded× coded_ℕ (coded× coded_ℕ coded_ℕ))))
    (λ t. (t.space, ((t.next_chunk, t.final_chunk), (t.memory_type, (t.props, t.atom)))))
    (λ c. sized_in c.0 c.1.0.0 c.1.0.1 c.1.1.0 c.1.1.1.0 c.1.1.1.1) (λ _. refl)

-- Sizes: of the next chunk at least, of the largest, and of the atom.

-- they are whole atoms, and the next chunk is no larger than the largest
pub record AreSizes (next final atom : ℕ) : Type 0 where
  pub next_chunk : (IsMultipleOf atom next × (0 < next)) × (next ≤ final)
  pub final_chunk : IsMultipleOf atom final × (final ≤ 2 ^ 62)
  pub power : IsPowerUpTo 62 atom

-- a request that may be asked for
pub record ServesWhole (final atom size align_mask : ℕ) : Type 0 where
  pub nonempty : 0 < size
  pub fits : up size atom ≤ final
  pub alignment : IsAlignMask align_mask

-- the request in whole atoms, at an alignment no less than the atom
pub record IsWholeAsk (atom : ℕ) (ask : Ask) : Type 0 where
  pub nonempty : 0 < ask.size
  pub whole : IsMultipleOf atom ask.size
  pub alignment : IsAlignMask ask.align_mask
  pub aligned : atom ≤ ask.align_mask + 1

abbrev pub whole_ask : ℕ → ℕ → ℕ → Ask
whole_ask atom size align_mask = record { size = up size atom; align_mask = max align_mask (atom - 1) }

-- a block begins and ends at whole atoms
abbrev pub IsOfAtoms : ℕ → Slot → Type 0
IsOfAtoms atom slot = IsMultipleOf atom slot.offset × IsMultipleOf atom slot.size

module _ {S : Type 0} where
  -- the block's size: the request's, in whole atoms
  abbrev pub rounded : SizedState S → Wanted → ℕ
  rounded t w = up w.size t.atom

  -- the alignment of a block: the greater of the request's and the atom
  abbrev pub alignment : SizedState S → Wanted → ℕ
  alignment t w = max (w.align_mask + 1) t.atom

  -- the size of a chunk for a block of this size, and the next one's once it was made
  abbrev pub chunk_size : SizedState S → ℕ → ℕ
  chunk_size t size = grown_chunk t.next_chunk t.final_chunk size

  abbrev pub next_size : SizedState S → ℕ → ℕ
  next_size t whole = doubled_chunk t.final_chunk whole

  -- whether the chunks are host-visible
  abbrev pub sees_chunks : SizedState S → Bool
  sees_chunks t = has_bit t.props host_visible

  abbrev pub question : SizedState S → ℕ → ℕ → ChunkQuestion
  question t size flags =
      record { size = chunk_size t size; memory_type = t.memory_type; flags = flags; mapped = sees_chunks t }

  -- what was given to `new` and decides which requests are valid, which no call changes
  pub record KeepsSettings (t new : SizedState S) : Type 0 where
    pub final_chunk : new.final_chunk ≡ t.final_chunk
    pub memory_type : new.memory_type ≡ t.memory_type
    pub props : new.props ≡ t.props
    pub atom : new.atom ≡ t.atom

-- What holds of an allocator between calls, whatever its space: chunks have objects of their own and are no larger than
-- the largest, and chunks and blocks have whole atoms. (The last three fields are `AreSizes`, told again: as one
-- field they are a level deeper, and what is searched for a caller with two blocks was not found.)
pub record IsSoundSized {S : Type 0} (chunks_of : S → HeldChunks) (live_in : S → set.FinSet slot_cmp) (IsSoundSpace : S → Type 0)
    (t : SizedState S) : Type 0 where
  pub space : IsSoundSpace t.space
  pub one_object : (k n : ℕ) (c d : Chunk) → map.get (chunks_of t.space) k ≡ Some c → map.get (chunks_of t.space) n ≡ Some d
      → c.object ≡ d.object → k ≡ n
  pub chunks : (k : ℕ) (c : Chunk) → map.get (chunks_of t.space) k ≡ Some c → IsMultipleOf t.atom c.size
      × (c.size ≤ t.final_chunk)
  pub slots : (slot : Slot) → IsTrue (set.contains (live_in t.space) slot) → IsOfAtoms t.atom slot
  pub next_chunk : (IsMultipleOf t.atom t.next_chunk × (0 < t.next_chunk)) × (t.next_chunk ≤ t.final_chunk)
  pub final_chunk : IsMultipleOf t.atom t.final_chunk × (t.final_chunk ≤ 2 ^ 62)
  pub atom : IsPowerUpTo 62 t.atom
