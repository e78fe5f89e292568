-- A piece in hand is split, and is joined with its other half.
use Rattle.std.proofs.Common.{◌≡◌, ℕ, ◌+◌, ◌*◌, ◌^◌, ◌<◌, ◌⊎◌, inl, inr, sym, ◌∙◌, ap, subst, arith}
use Rattle.std.proofs.lemmas.Nat.{pow_pos}
use Rattle.std.proofs.lemmas.Bool.{cases_lt, cases_eq}
use Rattle.std.proofs.Math.Nat.{lt_of_mul-lt-mul_right}
use Rattle.gpu_alloc_base.specs.FreeSpace.{IsIn, IsMultipleOf}
use Rattle.gpu_alloc_base.specs.declared.piece.Piece.{Piece}
use Rattle.gpu_alloc_base.specs.Pieces.{InPiece, IsCanonical, AreHalves, joined, Without, IsWith}
use Rattle.gpu_alloc_base.proofs.AlignedPowers.{doubled}
use Rattle.gpu_alloc_pairs.proofs.PieceSteps.{same_bytes, take, put}

-- whether a byte lies in a range
pub cases_in : (s n at : ℕ) → IsIn s n at ⊎ (IsIn s n at → ⊥)
cases_in s n at = elim (cases_lt at s) [
  | inl lt ↦ inr (λ i. omega (arith, i.from))
  | inr le ↦ elim (cases_lt at (s + n)) [ inl lt ↦ inl (record { from = le; to = lt }) | inr out ↦ inr (λ i. omega (arith, i.to)) ]
]

-- a free byte is the piece's, or one of the others
pub splits : (F : ℕ → ℕ → Type 0) (x : Piece) (chunk at : ℕ) → F chunk at → (chunk ≡ x.chunk) × InPiece x at ⊎ Without F x chunk at
splits F x chunk at f = elim (cases_eq chunk x.chunk) [
  | inl e ↦ elim (cases_in x.start (2 ^ x.order) at) [ inl i ↦ inl (e, i) | inr out ↦ inr (f, λ _ i. out i) ]
  | inr ne ↦ inr (f, λ e _. absurd (ne e))
]

module _ (l r : Piece) (h : AreHalves l r) where
  pub in_left : (at : ℕ) → InPiece l at → InPiece (joined l) at
  in_left at i = record { from = i.from; to = omega (arith, i.to, doubled l.order) }

  length_right : 2 ^ r.order ≡ 2 ^ l.order
  length_right = ap (λ k. 2 ^ k) h.order

  pub in_right : (at : ℕ) → InPiece r at → InPiece (joined l) at
  in_right at i = record { from = omega (arith, i.from, h.beside); to = omega (arith, i.to, h.beside, length_right, doubled l.order) }

  pub not_both : (at : ℕ) → InPiece l at → InPiece r at → ⊥
  not_both at i j = omega (arith, i.to, j.from, h.beside)

  pub halves_of : (at : ℕ) → InPiece (joined l) at → InPiece l at ⊎ InPiece r at
  halves_of at i = elim (cases_lt at (l.start + 2 ^ l.order)) [
    | inl lt ↦ inl (record { from = i.from; to = lt })
    | inr le ↦ inr (record { from = omega (arith, h.beside); to = omega (arith, i.to, h.beside, length_right, doubled l.order) })
  ]

  -- a right half is no left half
  pub not_left : (q : Piece) → AreHalves r q → ⊥
  not_left q g =
      let p : ℕ = 2 ^ l.order in
      let m : ℕ = h.aligned.0 in
      let n : ℕ = g.aligned.0 in
      let em : l.start ≡ (2 * m) * p = omega (arith, h.aligned.1) in
      let e2 : n * (2 * 2 ^ r.order) ≡ n * (2 * p) = ap (λ x. n * (2 * x)) length_right in
      let en : r.start ≡ (2 * n) * p = omega (arith, g.aligned.1, e2) in
      let up : (2 * m) * p < (2 * n) * p = omega (arith, em, en, h.beside, pow_pos l.order) in
      let lt : 2 * m < 2 * n = lt_of_mul-lt-mul_right p up in
      let down : (2 * n) * p < (2 * m + 2) * p = omega (arith, em, en, h.beside, pow_pos l.order) in
      let gt : 2 * n < 2 * m + 2 = lt_of_mul-lt-mul_right p down in
      omega arith

  pub right_aligned : IsMultipleOf (2 ^ r.order) r.start
  right_aligned =
      let e2 : h.aligned.0 * (2 * 2 ^ l.order) ≡ h.aligned.0 * (2 * 2 ^ r.order) = ap (λ x. h.aligned.0 * (2 * x)) (sym length_right) in
      (2 * h.aligned.0 + 1, omega (arith, h.aligned.1, h.beside, length_right, e2))

  starts : (q : Piece) → InPiece q q.start
  starts q = record { from = omega arith; to = omega (arith, pow_pos q.order) }

  -- a piece of which r is the right half starts where l does
  at_left : (q : Piece) → AreHalves q r → InPiece l q.start
  at_left q g =
      let e : 2 ^ r.order ≡ 2 ^ q.order = ap (λ k. 2 ^ k) g.order in
      record { from = omega (arith, g.beside, h.beside, e, length_right); to = omega (arith, g.beside, h.beside, e, length_right, pow_pos l.order) }

  module _ (old new : Piece → Type 0) (F : ℕ → ℕ → Type 0) where
    -- the right half joins the left one, which was in hand
    pub join_right : IsWith new old r → (new r → ⊥) → IsCanonical old (Without F l) → IsCanonical new (Without F (joined l))
    join_right w gone c =
        same_bytes new (Without (Without F l) r) (Without F (joined l))
        (λ o at f. (f.0.0, λ e i. elim (halves_of at i) [ inl il ↦ f.0.1 e il | inr ir ↦ f.1 (e ∙ sym h.chunk) ir ]))
        (λ o at f. ((f.0, λ e i. f.1 e (in_left at i)), λ e i. f.1 (e ∙ h.chunk) (in_right at i)))
        (take old new (Without F l) r w gone c)

    -- the left half joins the right one, which was in hand
    pub join_left : IsWith new old l → (new l → ⊥) → IsCanonical old (Without F r) → IsCanonical new (Without F (joined l))
    join_left w gone c =
        same_bytes new (Without (Without F r) l) (Without F (joined l))
        (λ o at f. (f.0.0, λ e i. elim (halves_of at i) [ inl il ↦ f.1 e il | inr ir ↦ f.0.1 (e ∙ sym h.chunk) ir ]))
        (λ o at f. ((f.0, λ e i. f.1 (e ∙ h.chunk) (in_right at i)), λ e i. f.1 e (in_left at i)))
        (take old new (Without F r) l w gone c)

    -- the right half of the piece in hand is put back
    pub split : IsWith old new r → ((at : ℕ) → InPiece (joined l) at → F l.chunk at) → IsCanonical old (Without F (joined l)) → IsCanonical new (Without F l)
    split w inside c =
        put old new (Without F l) r w
        right_aligned
        (λ at i. (subst (λ o. F o at) (sym h.chunk) (inside at (in_right at i)), λ _ i'. not_both at i' i))
        (λ q has g. not_left q g)
        (λ q has g. (c.free q has q.start (starts q)).1 (sym g.chunk ∙ h.chunk) (in_left q.start (at_left q g)))
        (λ o at f. splits (Without F l) r o at f)
        (same_bytes old (Without F (joined l)) (Without (Without F l) r)
        (λ o at f. ((f.0, λ e i. f.1 e (in_left at i)), λ e i. f.1 (e ∙ h.chunk) (in_right at i)))
        (λ o at f. (f.0.0, λ e i. elim (halves_of at i) [ inl il ↦ f.0.1 e il | inr ir ↦ f.1 (e ∙ sym h.chunk) ir ]))
        c)
