-- The free pieces as ranges of their objects.
use Rattle.std.proofs.Common.{◌≡◌, ℕ, ◌+◌, ◌^◌, ◌↔◌, false, List, map, get_or, Contains, Some, refl, sym, ◌∙◌, subst, arith}
use mathlib.Core.Bool.{true≢false}
use Rattle.std.proofs.lemmas.List.Elements.{Contains-get_or}
use Rattle.std.proofs.lemmas.Map.Keys.{apart_from_distinct}
use Rattle.std.proofs.lemmas.Nat.{pow_pos}
use Rattle.std.specs.FinMap as map_of
use Rattle.std.specs.List.{IsDistinct}
use Rattle.gpu_alloc_types.specs.declared.types.FreeRange.{FreeRange}
use Rattle.gpu_alloc_base.specs.Chunks.{Chunk, object_in}
use Rattle.gpu_alloc_base.specs.FreeSpace.{IsFreePiece}
use Rattle.gpu_alloc_base.specs.Pieces.{same_place}
use Rattle.gpu_alloc_base.specs.RangeOrder.{same_start}
use Rattle.gpu_alloc_base.specs.declared.piece.Piece.{Piece}
use Rattle.gpu_alloc_base.proofs.ListedRanges.{told_object, listed, start_apart}
use Rattle.gpu_alloc_base.proofs.RangeOrder.{starts_apart}
use Rattle.gpu_alloc_buddy.specs.Buddy.{IsPieceOf}
use Rattle.gpu_alloc_buddy.specs.BuddyState.{Buddy, IsFreeInBuddy, space_of}
use Rattle.gpu_alloc_pairs.proofs.Counts.{same_place-from_eq}
use Rattle.gpu_alloc_pairs.specs.Space.{IsSoundBuddySpace}
use Rattle.gpu_alloc_pairs.specs.Store.{piece_range}

module _ (b : Buddy) (sound : IsSoundBuddySpace (space_of b)) (pieces : List Piece) (exact : (p : Piece) → Contains pieces p ↔ IsFreePiece (IsFreeInBuddy b) p.chunk p.start (2 ^ p.order)) (once : IsDistinct same_place pieces) where
  -- a piece is of a held chunk
  chunk_of : (p : Piece) → Contains pieces p → (chunk : Chunk) × (map_of.get b.chunks p.chunk ≡ Some chunk)
  chunk_of p has = let first = ((exact p).0 has).place.free p.start (record { from = omega arith; to = omega (arith, pow_pos p.order) }) in (first.held, first.is)

  -- its range is one of a free piece
  is_piece : (p : Piece) → Contains pieces p → IsPieceOf b (piece_range (space_of b) p)
  is_piece p has =
      let of = chunk_of p has in
      record { key = p.chunk; chunk = of.0; held = of.1; object = sym (told_object (map_of.get b.chunks p.chunk) of.0 of.1); length = 2 ^ p.order; end = refl; piece = (exact p).0 has }

  -- and a free piece is one of them
  piece_is : (r : FreeRange) → IsPieceOf b r → (p : Piece) × Contains pieces p × (piece_range (space_of b) p ≡ r)
  piece_is r is =
      let order : ℕ = is.piece.place.power.0 in
      let length : is.length ≡ 2 ^ order = is.piece.place.power.1 in
      let p : Piece = record { chunk = is.key; start = r.start; order = order } in
      let object : object_in (map_of.get b.chunks is.key) ≡ r.object = told_object (map_of.get b.chunks is.key) is.chunk is.held ∙ is.object in
      let end : r.start + 2 ^ order ≡ r.end = omega (arith, length, is.end) in
      (p, (exact p).1 (subst (IsFreePiece (IsFreeInBuddy b) is.key r.start) length is.piece), (λ k. record { object = object k; start = r.start; end = end k }))

  -- the ranges are exactly those of the free pieces
  pub all_pieces : (r : FreeRange) → Contains (map (piece_range (space_of b)) pieces) r ↔ IsPieceOf b r
  all_pieces = listed (piece_range (space_of b)) pieces (IsPieceOf b) is_piece piece_is

  -- two pieces that are of one object and start at one byte are of one chunk, so that they are one
  two_pieces : (p q : Piece) → Contains pieces p → Contains pieces q → same_place p q ≡ false → same_start (piece_range (space_of b) p) (piece_range (space_of b) q) ≡ false
  two_pieces p q has_p has_q other = starts_apart (piece_range (space_of b) p) (piece_range (space_of b) q) (λ object start.
      let of_p = chunk_of p has_p in
      let of_q = chunk_of q has_q in
      let named = sym (told_object (map_of.get b.chunks p.chunk) of_p.0 of_p.1) ∙ object ∙ told_object (map_of.get b.chunks q.chunk) of_q.0 of_q.1 in
      let chunk : p.chunk ≡ q.chunk = sound.one_object p.chunk q.chunk of_p.0 of_q.0 of_p.1 of_q.1 named in
      true≢false (sym (same_place-from_eq p q chunk start) ∙ other))

  -- no two ranges start at one byte of one object
  pub pieces_apart : IsDistinct same_start (map (piece_range (space_of b)) pieces)
  pieces_apart = start_apart (piece_range (space_of b)) pieces (λ i j d lt within.
      two_pieces (get_or pieces i d) (get_or pieces j d) (Contains-get_or pieces i d (omega arith)) (Contains-get_or pieces j d within)
      (apart_from_distinct same_place pieces i j d once lt within))
