-- The held chunks of a free list by number, as contracts see them, and the rising numbers by which they are found.
use Rattle.std.specs.Prelude.{◌≡◌, ◌↔◌, ℕ, ◌-◌, ◌<◌, List, length, map, min, get_or, Some}
use Rattle.std.specs.FinMap as map_of
use Rattle.std.specs.List.{Contains}
use Rattle.std.specs.Ordering.{nat_cmp}
use Rattle.slab.specs.Slab.{Slab, entries, get, slab_len}
use Rattle.gpu_alloc_base.specs.Accounts.{HeldChunks}
use Rattle.gpu_alloc_base.specs.Chunks.{Chunk}
use Rattle.gpu_alloc_base.specs.SlabViews.{map_by, HasOneKeyEach}
use Rattle.gpu_alloc_base.specs.declared.region.FreeListRegion.{FreeListRegion}
use Rattle.gpu_alloc_freelist.specs.declared.freelist.chunks.NumberedChunk.{NumberedChunk}
use Rattle.gpu_alloc_freelist.specs.declared.freelist.chunks.NumberedKey.{NumberedKey}

-- the held chunks by number, and how many more there is room for
pub record NumberedChunks : Type 0 where
  pub held : HeldChunks
  pub room : ℕ

-- the region is all of its chunk
pub record IsWholeChunk (held : HeldChunks) (r : FreeListRegion) : Type 0 where
  pub start : r.start ≡ 0
  pub chunk : Chunk
  pub is : map_of.get held r.chunk ≡ Some chunk
  pub end : chunk.size ≡ r.end

-- The invariants of the fields.

-- a finite map from the rows' numbers to their values
abbrev pub by_number : {T X : Type 0} → (T → ℕ) → (T → X) → List T → map_of.FinMap nat_cmp X
by_number number value rows = map_of.from_entries (map (λ row. (number row, value row)) rows)

-- the numbers of the rows rise
abbrev pub AreNumbered : {T : Type 0} → (T → ℕ) → List T → Type 0
AreNumbered {T} number rows =
    (i j : ℕ) (d : T) → i < j → j < length rows → number (get_or rows i d) < number (get_or rows j d)

-- the keys by their numbers
abbrev pub keys_by_number : List NumberedKey → map_of.FinMap nat_cmp ℕ
keys_by_number numbers = by_number (λ n. n.number) (λ n. n.key) numbers

-- a row's chunk, by the name of its object
abbrev pub chunk_of : {M : Type 0} → (M → ℕ) → NumberedChunk M → Chunk
chunk_of object row = record { object = object row.memory; size = row.size }

-- the chunks of a slab by number
abbrev pub held_in : {M : Type 0} → (M → ℕ) → Slab (NumberedChunk M) → HeldChunks
held_in object rows = map_by (λ row. row.number) (chunk_of object) rows

-- there is room for a chunk where there is room for its row and for its number
abbrev pub numbered_chunks_in : {M : Type 0} → (M → ℕ) → Slab (NumberedChunk M) → ℕ → NumberedChunks
numbered_chunks_in object rows numbers_room =
    record { held = held_in object rows; room = min (rows.capacity - slab_len rows) numbers_room }

-- the row of the number stands under the key
abbrev pub IsFiled : {M : Type 0} → Slab (NumberedChunk M) → NumberedKey → Type 0
IsFiled {M} rows n = (row : NumberedChunk M) × (get rows n.key ≡ Some row) × (row.number ≡ n.number)

-- the numbers rise, and are those of the rows, each with its row's key
pub record AreFiled {M : Type 0} (rows : Slab (NumberedChunk M)) (numbers : List NumberedKey) : Type 0 where
  pub rising : AreNumbered (λ n. n.number) numbers
  pub exact : (n : NumberedKey) → Contains numbers n ↔ IsFiled rows n

-- these are the held chunks, each once, with the keys of their rows
pub record ListsChunks {M : Type 0} (object : M → ℕ) (held : HeldChunks) (listed : List (ℕ × NumberedChunk M)) : Type 0 where
  pub rows : Slab (NumberedChunk M)
  pub are : listed ≡ entries rows
  pub once : HasOneKeyEach (λ row. row.number) rows
  pub exact : held ≡ held_in object rows
