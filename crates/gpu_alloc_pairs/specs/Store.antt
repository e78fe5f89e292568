-- Stored chunks and pairs, as contracts see them.
use Rattle.std.specs.Prelude.{◌≡◌, ℕ, ◌+◌, ◌-◌, ◌*◌, ◌^◌, ◌<◌, ◌≤◌, ◌==◌, List, length, map, slice_index_or, count_by}
use Rattle.std.specs.Prelude.{◌⊎◌, Option, Some, None, Result, Ok, Err, ◌↔◌}
use Rattle.std.specs.FinMap as finite
use Rattle.std.specs.FinSet as set
use Rattle.std.specs.List.{Contains, IsDistinct}
use Rattle.slab.specs.Slab.{Slab, slab_len}
use Rattle.gpu_alloc_types.specs.declared.types.FreeRange.{FreeRange}
use Rattle.gpu_alloc_base.specs.Accounts.{HeldChunks}
use Rattle.gpu_alloc_base.specs.Chunks.{Chunk, object_in}
use Rattle.gpu_alloc_base.specs.FreeSpace.{IsFreePiece, IsMultipleOf}
use Rattle.gpu_alloc_base.specs.Pieces.{IsCanonical, same_place}
use Rattle.gpu_alloc_base.specs.declared.buddy_block.Leaf.{Leaf}
use Rattle.gpu_alloc_base.specs.declared.piece.Piece.{Piece}
use Rattle.gpu_alloc_pairs.specs.Entry.{Entry, half_start}
use Rattle.gpu_alloc_pairs.specs.Halves.{free_pieces, live_leaves}
use Rattle.gpu_alloc_pairs.specs.Space.{BuddySpace, IsFreeAt, HasPlace, IsFront, IsSoundBuddySpace, with_leaf}
use Rattle.gpu_alloc_pairs.specs.Tree.{IsReady, IsTree, pair_at}
use Rattle.gpu_alloc_pairs.specs.declared.pair.Side.{Side}

-- The held chunks and the live blocks; the free halves of all pairs, as pieces; and how many more pairs of each length,
-- and how many more chunks, there is room for.
pub record BuddyStore : Type 0 where
  pub space : BuddySpace
  pub free : List Piece
  pub rooms : List ℕ
  pub chunk_room : ℕ

-- the held chunks, with the blocks that pairs have as taken halves
abbrev pub buddy_space_in : HeldChunks → List (Slab Entry) → BuddySpace
buddy_space_in chunks lengths = record { chunks = chunks; live = live_leaves chunks lengths }

abbrev pub rooms_in : List (Slab Entry) → List ℕ
rooms_in lengths = map (λ s. s.capacity - slab_len s) lengths

abbrev pub buddy_store_in : HeldChunks → ℕ → List (Slab Entry) → BuddyStore
buddy_store_in chunks chunk_room lengths =
    record { space = buddy_space_in chunks lengths; free = free_pieces lengths; rooms = rooms_in lengths; chunk_room = chunk_room }

-- there are pairs of 63 lengths, which form a tree, and their free halves are the free pieces
pub record IsStored (chunks : HeldChunks) (lengths : List (Slab Entry)) : Type 0 where
  pub count : length lengths ≡ 63
  pub tree : IsTree (pair_at lengths) chunks
  pub canonical : IsCanonical (IsReady (pair_at lengths)) (IsFreeAt (buddy_space_in chunks lengths))
  pub sound : IsSoundBuddySpace (buddy_space_in chunks lengths)

-- only the room changes
pub record KeepsStore (old new : BuddyStore) : Type 0 where
  pub space : new.space ≡ old.space
  pub free : new.free ≡ old.free

-- there is room for one more pair of each order from the first up to the second, and for a chunk
pub record HasPairRooms (s : BuddyStore) (low high : ℕ) : Type 0 where
  pub chunk : 0 < s.chunk_room
  pub pairs : (n : ℕ) → low ≤ n → n < high → 0 < slice_index_or s.rooms n 0

-- what is free is stored exactly: the free halves are the free pieces, each once
pub record IsExact (s : BuddyStore) : Type 0 where
  pub pieces : (p : Piece) → Contains s.free p ↔ IsFreePiece (IsFreeAt s.space) p.chunk p.start (2 ^ p.order)
  pub once : IsDistinct same_place s.free

-- no length has more free pieces than live blocks
abbrev pub AreFew : BuddyStore → Type 0
AreFew s = (order : ℕ) → count_by (λ p. p.order == order) s.free ≤ set.len (s.space).live

-- a piece as a range of its chunk's object
abbrev pub piece_range : BuddySpace → Piece → FreeRange
piece_range s p =
    record { object = object_in (finite.get s.chunks p.chunk); start = p.start; end = p.start + 2 ^ p.order }

-- a place is looked for: a block in one, or none there, or no host memory for a block in one
abbrev pub TakesFront : {E : Type 0} → BuddySpace → ℕ → Result (Option Leaf) E → BuddySpace → Type 0
TakesFront s size (Ok None) new = (HasPlace s size → ⊥) × (new ≡ s)
TakesFront s size (Ok (Some leaf)) new = IsFront s size leaf × (new ≡ with_leaf s leaf)
TakesFront s size (Err e) new = HasPlace s size × (new ≡ s)

-- at most 63 lengths are looked at
abbrev pub CountsLooks : ℕ → ℕ → Type 0
CountsLooks old new = (old ≤ new) × (new ≤ old + 63)

-- the length of a shortest free piece that is long enough for a block of this size
pub record IsShortest (s : BuddySpace) (size length : ℕ) : Type 0 where
  pub enough : size ≤ length
  pub there : (chunk start : ℕ) × IsFreePiece (IsFreeAt s) chunk start length
  pub shortest : (chunk start other : ℕ) → IsFreePiece (IsFreeAt s) chunk start other → size ≤ other → length ≤ other

-- the last length that is looked at for a place: that of a shortest free piece, or where there is no place 2^62 bytes
abbrev pub IsLastLook : BuddySpace → ℕ → ℕ → Type 0
IsLastLook s size length = IsShortest s size length ⊎ ((HasPlace s size → ⊥) × (length ≡ 2 ^ 62))

-- each length is looked at once, from the block's size on: where the last is 2^k times that, it takes k + 1 looks
pub record CountsSearch (s : BuddySpace) (size looks now : ℕ) : Type 0 where
  pub doublings : ℕ
  pub few : doublings ≤ 62
  pub last : IsLastLook s size (size * 2 ^ doublings)
  pub looked : now ≡ looks + doublings + 1

-- a block is the front of a free piece of 2^k times its size: that took k + 1 looks and k splits
pub record CountsFront (s : BuddySpace) (leaf : Leaf) (looks now splits after : ℕ) : Type 0 where
  pub doublings : ℕ
  pub few : doublings ≤ 62
  pub piece : IsFreePiece (IsFreeAt s) leaf.chunk leaf.offset (leaf.size * 2 ^ doublings)
  pub looked : now ≡ looks + doublings + 1
  pub split : after ≡ splits + doublings

-- the steps of a search for a place, and of taking the block
abbrev pub CountsTaking : {E : Type 0} → BuddySpace → ℕ → Result (Option Leaf) E → ℕ → ℕ → ℕ → ℕ → Type 0
CountsTaking s size (Ok (Some leaf)) looks now splits after = CountsFront s leaf looks now splits after
CountsTaking s size (Ok None) looks now splits after = CountsSearch s size looks now × (after ≡ splits)
CountsTaking s size (Err e) looks now splits after = CountsSearch s size looks now × (after ≡ splits)

-- no held chunk is of this object
abbrev pub IsUnheld : BuddySpace → ℕ → Type 0
IsUnheld s object = (key : ℕ) (chunk : Chunk) → finite.get s.chunks key ≡ Some chunk → chunk.object ≡ object → ⊥

-- which half of an aligned range of twice its length starts there
abbrev pub HasSide : ℕ → ℕ → Side → Type 0
HasSide offset order side = (m : ℕ) × (offset ≡ half_start (2 ^ order) (m * 2 ^ (order + 1)) side)

abbrev pub StartsHalf : ℕ → ℕ → Type 0
StartsHalf offset order = IsMultipleOf (2 ^ order) offset
