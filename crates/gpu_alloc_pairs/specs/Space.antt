-- Shared chunks and the live blocks in them: what is free, where there is room for a block, and how a grant and a
-- return change them.
use Rattle.std.specs.Prelude.{◌≡◌, ℕ, ◌+◌, ◌^◌, ◌<◌, ◌≤◌, Some, None, IsTrue}
use Rattle.std.specs.FinMap as map
use Rattle.std.specs.FinSet as set
use Rattle.gpu_alloc_base.specs.Accounts.{HeldChunks}
use Rattle.gpu_alloc_base.specs.Chunks.{Chunk}
use Rattle.gpu_alloc_base.specs.FreeSpace.{IsIn, IsMultipleOf, IsPowerUpTo, IsPlace, IsFreePiece}
use Rattle.gpu_alloc_base.specs.Leaves.{leaf_cmp}
use Rattle.gpu_alloc_base.specs.declared.buddy_block.Leaf.{Leaf}

-- the held chunks by key, and the live blocks
pub record BuddySpace : Type 0 where
  pub chunks : HeldChunks
  pub live : set.FinSet leaf_cmp

abbrev pub IsLiveLeaf : BuddySpace → Leaf → Type 0
IsLiveLeaf s leaf = IsTrue (set.contains s.live leaf)

-- a live block of this span of an object
pub record IsLiveSpan (s : BuddySpace) (object offset size : ℕ) (leaf : Leaf) : Type 0 where
  pub live : IsLiveLeaf s leaf
  pub of_object : leaf.object ≡ object
  pub starts : leaf.offset ≡ offset
  pub of_size : leaf.size ≡ size

-- no live block has this span
abbrev pub IsNoLiveSpan : BuddySpace → ℕ → ℕ → ℕ → Type 0
IsNoLiveSpan s object offset size = (leaf : Leaf) → IsLiveSpan s object offset size leaf → ⊥

-- the byte lies in a held chunk, and in no live block
pub record IsFreeAt (s : BuddySpace) (chunk at : ℕ) : Type 0 where
  pub held : Chunk
  pub is : map.get s.chunks chunk ≡ Some held
  pub inside : at < held.size
  pub unused : (leaf : Leaf) → IsLiveLeaf s leaf → leaf.chunk ≡ chunk → IsIn leaf.offset leaf.size at → ⊥

-- there is room for a block of this size in a held chunk
abbrev pub HasPlace : BuddySpace → ℕ → Type 0
HasPlace s size = (chunk start : ℕ) × IsPlace (IsFreeAt s) chunk start size

-- the block is the front of a shortest free piece that is long enough
pub record IsFront (s : BuddySpace) (size : ℕ) (leaf : Leaf) : Type 0 where
  pub of_size : leaf.size ≡ size
  pub chunk : Chunk
  pub held : map.get s.chunks leaf.chunk ≡ Some chunk
  pub object : leaf.object ≡ chunk.object
  pub length : ℕ
  pub piece : IsFreePiece (IsFreeAt s) leaf.chunk leaf.offset length
  pub enough : size ≤ length
  pub shortest : (chunk start other : ℕ) → IsFreePiece (IsFreeAt s) chunk start other → size ≤ other → length ≤ other

-- the block begins a chunk that was not held
pub record BeginsChunk (s : BuddySpace) (size : ℕ) (leaf : Leaf) : Type 0 where
  pub of_size : leaf.size ≡ size
  pub start : leaf.offset ≡ 0
  pub free_key : map.get s.chunks leaf.chunk ≡ None

-- one more block is live
abbrev pub with_leaf : BuddySpace → Leaf → BuddySpace
with_leaf s leaf = record s { live = set.insert s.live leaf }

-- one more chunk is held, of the block's object
abbrev pub chunks_with : HeldChunks → Leaf → ℕ → HeldChunks
chunks_with chunks leaf size = map.insert chunks leaf.chunk (record { object = leaf.object; size = size })

abbrev pub with_chunk : BuddySpace → Leaf → ℕ → BuddySpace
with_chunk s leaf size = record s { chunks = chunks_with s.chunks leaf size }

-- no block of the chunk is live
abbrev pub IsUnusedChunk : BuddySpace → ℕ → Type 0
IsUnusedChunk s chunk = (leaf : Leaf) → IsLiveLeaf s leaf → (leaf.chunk ≡ chunk → ⊥)

-- a block of this chunk is live
abbrev pub IsUsedChunk : BuddySpace → ℕ → Type 0
IsUsedChunk s key = (leaf : Leaf) × (IsLiveLeaf s leaf × (leaf.chunk ≡ key))

-- one block fewer
abbrev pub without_leaf : BuddySpace → Leaf → BuddySpace
without_leaf s leaf = record s { live = set.remove s.live leaf }

-- one block fewer, and its chunk
abbrev pub without_leaf_and_chunk : BuddySpace → Leaf → BuddySpace
without_leaf_and_chunk s leaf = record { chunks = map.remove s.chunks leaf.chunk; live = set.remove s.live leaf }

-- a live block lies in its chunk, at a multiple of its size, which is a power of two
pub record LiesInChunk (s : BuddySpace) (leaf : Leaf) : Type 0 where
  pub chunk : Chunk
  pub held : map.get s.chunks leaf.chunk ≡ Some chunk
  pub object : leaf.object ≡ chunk.object
  pub power : (k : ℕ) × (leaf.size ≡ 2 ^ k)
  pub aligned : IsMultipleOf leaf.size leaf.offset
  pub inside : leaf.offset + leaf.size ≤ chunk.size

-- chunks have objects of their own, with a live block each, and live blocks are apart
pub record IsSoundBuddySpace (s : BuddySpace) : Type 0 where
  pub one_object : (k l : ℕ) (c d : Chunk) → map.get s.chunks k ≡ Some c → map.get s.chunks l ≡ Some d
      → c.object ≡ d.object → k ≡ l
  pub powers : (k : ℕ) (c : Chunk) → map.get s.chunks k ≡ Some c → IsPowerUpTo 63 c.size
  pub used : (k : ℕ) (c : Chunk) → map.get s.chunks k ≡ Some c → IsUsedChunk s k
  pub inside : (leaf : Leaf) → IsLiveLeaf s leaf → LiesInChunk s leaf
  pub apart : (x y : Leaf) → IsLiveLeaf s x → IsLiveLeaf s y → x.chunk ≡ y.chunk → (at : ℕ) → IsIn x.offset x.size at
      → IsIn y.offset y.size at → x ≡ y
