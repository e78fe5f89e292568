-- The halves of one use, in a list: by length, then by key, and the left one first.
use Rattle.std.specs.Prelude.{ℕ, ◌+◌, ◌^◌, Bool, true, false, List, [], ◌∷◌, ◌++◌, map, cond}
use Rattle.std.specs.List.{flat_map}
use Rattle.std.specs.FinMap as finite
use Rattle.std.specs.FinSet as set
use Rattle.slab.specs.Slab.{Slab, entries}
use Rattle.gpu_alloc_base.specs.Accounts.{HeldChunks}
use Rattle.gpu_alloc_base.specs.Chunks.{object_in}
use Rattle.gpu_alloc_base.specs.Leaves.{leaf_cmp}
use Rattle.gpu_alloc_base.specs.declared.buddy_block.Leaf.{Leaf}
use Rattle.gpu_alloc_base.specs.declared.piece.Piece.{Piece}
use Rattle.gpu_alloc_pairs.specs.Entry.{Entry, use_of, half_start}
use Rattle.gpu_alloc_pairs.specs.declared.pair.Side.{Side}
use Rattle.gpu_alloc_pairs.specs.declared.pair.Side.TheVariants.{Left, Right}
use Rattle.gpu_alloc_pairs.specs.declared.pair.Use.{Use}
use Rattle.gpu_alloc_pairs.specs.declared.pair.Use.TheVariants.{Free, Taken, Divided}

-- a half: the piece that it is, the key of its pair, and which of the two it is
pub record HalfAt : Type 0 where
  pub piece : Piece
  pub key : ℕ
  pub side : Side

abbrev pub same_use : Use → Use → Bool
same_use Free Free = true
same_use Free Taken = false
same_use Free Divided = false
same_use Taken Free = false
same_use Taken Taken = true
same_use Taken Divided = false
same_use Divided Free = false
same_use Divided Taken = false
same_use Divided Divided = true

abbrev pub half_at : ℕ → ℕ → Entry → Side → HalfAt
half_at order key e side = record {
  piece = record { chunk = e.chunk; start = half_start (2 ^ order) e.offset side; order = order };
  key = key;
  side = side;
}

-- this half of a pair, if it has this use
abbrev pub half_used : Use → ℕ → ℕ → Entry → Side → List HalfAt
half_used now order key e side = cond (same_use (use_of e side) now) (half_at order key e side ∷ []) []

abbrev pub halves_of_pair : Use → ℕ → ℕ × Entry → List HalfAt
halves_of_pair now order pair = half_used now order pair.0 pair.1 Left ++ half_used now order pair.0 pair.1 Right

unfoldable pub halves_of_length : Use → ℕ → Slab Entry → List HalfAt
halves_of_length now order pairs = flat_map (halves_of_pair now order) (entries pairs)

-- the same for lengths from this order on
unfoldable pub halves_from : Use → ℕ → List (Slab Entry) → List HalfAt
halves_from now order [] = []
halves_from now order (pairs ∷ rest) = halves_of_length now order pairs ++ halves_from now (order + 1) rest

-- the free pieces
abbrev pub free_pieces : List (Slab Entry) → List Piece
free_pieces lengths = map (λ h. h.piece) (halves_from Free 0 lengths)

-- the block that a half is
abbrev pub leaf_of : HeldChunks → HalfAt → Leaf
leaf_of chunks h = record {
  object = object_in (finite.get chunks (h.piece).chunk);
  chunk = (h.piece).chunk;
  offset = (h.piece).start;
  size = 2 ^ (h.piece).order;
  index = h.key;
}

-- the live blocks
abbrev pub live_leaves : HeldChunks → List (Slab Entry) → set.FinSet leaf_cmp
live_leaves chunks lengths = set.from_list (map (leaf_of chunks) (halves_from Taken 0 lengths))
