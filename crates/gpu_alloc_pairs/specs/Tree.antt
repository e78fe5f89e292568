-- Pairs of all lengths, by the order of their halves and by key: which halves there are, and how pairs divide them.
use Rattle.std.specs.Prelude.{◌≡◌, ◌≢◌, ℕ, ◌+◌, ◌^◌, ◌≤◌, List, [], slice_index_or, Option, Some, None}
use Rattle.std.specs.FinMap as map
use Rattle.slab.specs.Slab.{Slab, get}
use Rattle.gpu_alloc_base.specs.Accounts.{HeldChunks}
use Rattle.gpu_alloc_base.specs.Chunks.{Chunk}
use Rattle.gpu_alloc_base.specs.FreeSpace.{IsMultipleOf}
use Rattle.gpu_alloc_base.specs.declared.piece.Piece.{Piece}
use Rattle.gpu_alloc_pairs.specs.Entry.{Entry, use_of, half_start}
use Rattle.gpu_alloc_pairs.specs.declared.pair.Parent.{Parent}
use Rattle.gpu_alloc_pairs.specs.declared.pair.Side.{Side}
use Rattle.gpu_alloc_pairs.specs.declared.pair.Use.{Use}
use Rattle.gpu_alloc_pairs.specs.declared.pair.Use.TheVariants.{Free, Divided}

-- the pair of halves of 2 ^ order bytes under a key
abbrev pub Pairs : Type 0
Pairs = ℕ → ℕ → Option Entry

abbrev pub no_pairs : Slab Entry
no_pairs = record { slots = []; vacant_key = 0; capacity = 0 }

-- one length after another
abbrev pub pair_at : List (Slab Entry) → Pairs
pair_at lengths order key = get (slice_index_or lengths order no_pairs) key

-- the piece is this half of the pair under the key, and has this use
pub record IsHalf (pairs : Pairs) (p : Piece) (key : ℕ) (side : Side) (now : Use) : Type 0 where
  pub entry : Entry
  pub pair : pairs p.order key ≡ Some entry
  pub chunk : p.chunk ≡ entry.chunk
  pub start : p.start ≡ half_start (2 ^ p.order) entry.offset side
  pub used : use_of entry side ≡ now

-- the piece is a free half
pub record IsReady (pairs : Pairs) (p : Piece) : Type 0 where
  pub key : ℕ
  pub side : Side
  pub half : IsHalf pairs p key side Free

-- a pair without a parent is the whole of its chunk
pub record IsRoot (chunks : HeldChunks) (order : ℕ) (e : Entry) : Type 0 where
  pub chunk : Chunk
  pub held : map.get chunks e.chunk ≡ Some chunk
  pub size : chunk.size ≡ 2 ^ (order + 1)
  pub offset : e.offset ≡ 0

-- a pair divides a half one length up
pub record Divides (pairs : Pairs) (order : ℕ) (e : Entry) (p : Parent) : Type 0 where
  pub above : Entry
  pub pair : pairs (order + 1) p.key ≡ Some above
  pub divided : use_of above p.side ≡ Divided
  pub chunk : e.chunk ≡ above.chunk
  pub offset : e.offset ≡ half_start (2 ^ (order + 1)) above.offset p.side

abbrev pub IsPlaced : Pairs → HeldChunks → ℕ → Entry → Option Parent → Type 0
IsPlaced pairs chunks order e None = IsRoot chunks order e
IsPlaced pairs chunks order e (Some p) = Divides pairs order e p

-- no pair divides this half
abbrev pub IsUndivided : Pairs → ℕ → ℕ → Side → Type 0
IsUndivided pairs order key side =
    (below child : ℕ) (e : Entry) → below + 1 ≡ order → pairs below child ≡ Some e
    → e.parent ≢ Some (record { key = key; side = side })

-- the pair lies in its chunk
pub record PairLiesIn (chunks : HeldChunks) (order : ℕ) (e : Entry) : Type 0 where
  pub chunk : Chunk
  pub held : map.get chunks e.chunk ≡ Some chunk
  pub inside : e.offset + 2 ^ (order + 1) ≤ chunk.size

-- each pair is its whole chunk or divides a half, and no two of a length lie at the same place
pub record IsTree (pairs : Pairs) (chunks : HeldChunks) : Type 0 where
  pub placed : (order key : ℕ) (e : Entry) → pairs order key ≡ Some e → IsPlaced pairs chunks order e e.parent
  pub aligned : (order key : ℕ) (e : Entry) → pairs order key ≡ Some e → IsMultipleOf (2 ^ (order + 1)) e.offset
  pub inside : (order key : ℕ) (e : Entry) → pairs order key ≡ Some e → PairLiesIn chunks order e
  pub one_place : (order k l : ℕ) (e f : Entry) → pairs order k ≡ Some e → pairs order l ≡ Some f → e.chunk ≡ f.chunk
      → e.offset ≡ f.offset → k ≡ l
