-- The front of a free half becomes a block.
use Rattle.std.proofs.Common.{◌≡◌, ℕ, ◌^◌, Bool, true, false, refl, sym, ◌∙◌, ap, subst}
use Rattle.gpu_alloc_base.specs.Pieces.{IsCanonical}
use Rattle.gpu_alloc_base.specs.declared.piece.Piece.{Piece}
use Rattle.gpu_alloc_base.proofs.ExactPieces.{same_piece}
use Rattle.gpu_alloc_pairs.specs.Entry.{half_start}
use Rattle.gpu_alloc_pairs.specs.InHand.{IsTakenOut, IsTakenMore, IsTakenSame}
use Rattle.gpu_alloc_pairs.specs.Lengths.{TakesHalf}
use Rattle.gpu_alloc_pairs.specs.Space.{BuddySpace, IsFreeAt}
use Rattle.gpu_alloc_pairs.specs.Tree.{Pairs, IsReady, IsTree}
use Rattle.gpu_alloc_pairs.specs.declared.length.Half.{Half}
use Rattle.gpu_alloc_pairs.proofs.Splits.{taken_out, taken_divided, taken_whole}
use Rattle.gpu_alloc_pairs.proofs.Trees.{piece_at}

-- the piece that a half is
abbrev pub half_piece : Half → ℕ → Piece
half_piece h order = record { chunk = h.chunk; start = half_start (2 ^ order) h.offset h.side; order = order }

module _ (P Q : Pairs) (order : ℕ) (h : Half) (d : Bool) (t : TakesHalf P Q order h d) where
  is_half : half_piece h order ≡ piece_at order t.entry h.side
  is_half = same_piece (half_piece h order) (piece_at order t.entry h.side) t.chunk (ap (λ n. half_start (2 ^ order) n h.side) t.offset) refl

  pub half_out : (s : BuddySpace) → IsTree P s.chunks → IsCanonical (IsReady P) (IsFreeAt s) → (z : Piece) → z ≡ half_piece h order → IsTakenOut Q s z h.key h.side d
  half_out s tree canonical z is =
      subst (λ x. IsTakenOut Q s x h.key h.side d) (sym (is ∙ is_half)) (taken_out P Q s order h.key h.side t.entry d t.sets t.free tree canonical)

pub half_more : (P Q : Pairs) (order : ℕ) (h : Half) (t : TakesHalf P Q order h false) (z : Piece) → z ≡ half_piece h order → IsTakenMore P Q z h.key h.side
half_more P Q order h t z is = subst (λ x. IsTakenMore P Q x h.key h.side) (sym (is ∙ is_half P Q order h false t)) (taken_whole P Q order h.key h.side t.entry t.free t.sets.was t.sets)

pub half_same : (P Q : Pairs) (order : ℕ) (h : Half) (t : TakesHalf P Q order h true) → IsTakenSame P Q
half_same P Q order h t = taken_divided P Q order h.key h.side t.entry t.free t.sets.was t.sets
