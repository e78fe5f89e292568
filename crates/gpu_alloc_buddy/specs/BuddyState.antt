-- What a buddy allocator of one memory type holds and has given out, and the sizes of what it gives out.
use Rattle.std.specs.Prelude.{ℕ, ◌+◌, ◌*◌, ◌^◌, ◌<◌, max}
use Rattle.std.specs.FinMap as map
use Rattle.std.specs.FinSet as set
use Rattle.std.specs.Ordering.{nat_cmp}
use Rattle.gpu_alloc_base.specs.declared.buddy_block.Leaf.{Leaf}
use Rattle.gpu_alloc_base.specs.Chunks.{Chunk}
use Rattle.gpu_alloc_base.specs.InHand.{Bytes}
use Rattle.gpu_alloc_base.specs.Leaves.{leaf_cmp}
use Rattle.gpu_alloc_base.specs.Sizes.{next_power_of_two}
use Rattle.gpu_alloc_base.specs.Wanted.{Wanted}
use Rattle.gpu_alloc_pairs.specs.Space as space
use Rattle.gpu_alloc_pairs.specs.Space.{BuddySpace, chunks_with}

-- The held chunks by key, the live blocks, the next chunk's least size, the smallest block, the memory type with its
-- property bits, and the atom, of which block sizes are multiples.
pub record Buddy : Type 0 where
  pub chunks : map.FinMap nat_cmp Chunk
  pub live : set.FinSet leaf_cmp
  pub next_chunk : ℕ
  pub minimal : ℕ
  pub memory_type : ℕ
  pub props : ℕ
  pub atom : ℕ

-- the fields as contracts see them, with the store's content as a space
abbrev pub buddy_in : BuddySpace → ℕ → ℕ → ℕ → ℕ → ℕ → Buddy
buddy_in s next_order minimal memory_type props atom = record {
  chunks = s.chunks;
  live = s.live;
  next_chunk = 2 ^ next_order;
  minimal = minimal;
  memory_type = memory_type;
  props = props;
  atom = atom;
}

-- only the chunks and the blocks
abbrev pub space_of : Buddy → BuddySpace
space_of b = record { chunks = b.chunks; live = b.live }

abbrev pub IsLiveBuddyLeaf : Buddy → Leaf → Type 0
IsLiveBuddyLeaf b = space.IsLiveLeaf (space_of b)

-- a live block of this span of an object
abbrev pub IsLiveBuddySpan : Buddy → ℕ → ℕ → ℕ → Leaf → Type 0
IsLiveBuddySpan b = space.IsLiveSpan (space_of b)

-- no live block has this span
abbrev pub IsNoLiveBuddySpan : Buddy → ℕ → ℕ → ℕ → Type 0
IsNoLiveBuddySpan b = space.IsNoLiveSpan (space_of b)

-- the byte lies in a held chunk, and in no live block
abbrev pub IsFreeInBuddy : Buddy → ℕ → ℕ → Type 0
IsFreeInBuddy b = space.IsFreeAt (space_of b)

-- the size of the block: the least power of two that is not below the request's size and alignment, the atom and the
-- smallest block
abbrev pub rounded : Buddy → Wanted → ℕ
rounded b w = next_power_of_two (max (max w.size (w.align_mask + 1)) (max b.atom b.minimal))

-- the size of a chunk for a block of this size: two blocks, and the next chunk's least size
abbrev pub chunk_size : Buddy → ℕ → ℕ
chunk_size b size = max b.next_chunk (2 * size)

-- a chunk for two blocks of this size is below 2^64 bytes
abbrev pub Fits : ℕ → Type 0
Fits size = 2 * size < 2 ^ 64

-- there is room for a block of this size in a held chunk
abbrev pub HasPlace : Buddy → ℕ → Type 0
HasPlace b = space.HasPlace (space_of b)

-- the block is the front of a shortest free piece that is long enough
abbrev pub IsBuddyFront : Buddy → ℕ → Leaf → Type 0
IsBuddyFront b = space.IsFront (space_of b)

-- the block begins a chunk that was not held
abbrev pub BeginsBuddyChunk : Buddy → ℕ → Leaf → Type 0
BeginsBuddyChunk b = space.BeginsChunk (space_of b)

-- one more block is live
abbrev pub buddy_with_leaf : Buddy → Leaf → Buddy
buddy_with_leaf b leaf = record b { live = set.insert b.live leaf }

-- one more chunk is held, of the block's object, and the next one will be at least as large
abbrev pub buddy_with_chunk : Buddy → Leaf → ℕ → Buddy
buddy_with_chunk b leaf size = record b { chunks = chunks_with b.chunks leaf size; next_chunk = size }

-- no block of the chunk is live
abbrev pub IsUnusedBuddyChunk : Buddy → ℕ → Type 0
IsUnusedBuddyChunk b = space.IsUnusedChunk (space_of b)

-- one block fewer
abbrev pub buddy_without_leaf : Buddy → Leaf → Buddy
buddy_without_leaf b leaf = record b { live = set.remove b.live leaf }

-- the bytes of a block
abbrev pub bytes_of : Leaf → Bytes
bytes_of leaf = record { object = leaf.object; offset = leaf.offset; size = leaf.size }
