-- The other half of a piece: that there is one alone.
use Rattle.std.proofs.Common.{◌≡◌, ◌^◌, ◌⊎◌, inl, inr, sym, ◌∙◌, ap, subst, arith}
use Rattle.gpu_alloc_base.specs.declared.piece.Piece.{Piece}
use Rattle.gpu_alloc_base.specs.Pieces.{AreHalves}
use Rattle.gpu_alloc_base.proofs.ExactPieces.{same_piece}
use Rattle.gpu_alloc_pairs.proofs.PieceHalves.{not_left}

-- the other half is one piece
pub right_half_is : (x y q : Piece) → AreHalves x y → AreHalves x q → q ≡ y
right_half_is x y q h g = same_piece q y (g.chunk ∙ sym h.chunk) (g.beside ∙ sym h.beside) (g.order ∙ sym h.order)

pub left_half_is : (x y q : Piece) → AreHalves y x → AreHalves q x → q ≡ y
left_half_is x y q h g =
    let eo : q.order ≡ y.order = sym g.order ∙ h.order in
    let e : 2 ^ q.order ≡ 2 ^ y.order = ap (λ n. 2 ^ n) eo in
    same_piece q y (sym g.chunk ∙ h.chunk) (omega (arith, g.beside, h.beside, e)) eo

-- where the other half is not kept, no kept piece is one
pub no_right : (x y : Piece) (P : Piece → Type 0) → AreHalves x y ⊎ AreHalves y x → (P y → ⊥) → (q : Piece) → P q → AreHalves x q → ⊥
no_right x y P h out q has g = elim h [
  | inl r ↦ out (subst P (right_half_is x y q r g) has)
  | inr l ↦ not_left y x l q g
]

pub no_left : (x y : Piece) (P : Piece → Type 0) → AreHalves x y ⊎ AreHalves y x → (P y → ⊥) → (q : Piece) → P q → AreHalves q x → ⊥
no_left x y P h out q has g = elim h [
  | inl r ↦ not_left q x g y r
  | inr l ↦ out (subst P (left_half_is x y q l g) has)
]
