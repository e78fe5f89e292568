-- What keeps pieces in canonical form: one is taken whole, and one is put back.
use Rattle.std.proofs.Common.{◌≡◌, ℕ, ◌+◌, ◌^◌, ◌⊎◌, inl, inr, sym, ◌∙◌, ap, subst, arith}
use Rattle.std.proofs.lemmas.Nat.{pow_pos}
use Rattle.gpu_alloc_base.specs.FreeSpace.{IsMultipleOf}
use Rattle.gpu_alloc_base.specs.declared.piece.Piece.{Piece}
use Rattle.gpu_alloc_base.specs.Pieces.{InPiece, IsCanonical, AreHalves, Without, IsWith}

-- canonical form depends on which bytes are free alone
pub same_bytes : (Has : Piece → Type 0) (F G : ℕ → ℕ → Type 0) → ((chunk at : ℕ) → F chunk at → G chunk at) → ((chunk at : ℕ) → G chunk at → F chunk at)
    → IsCanonical Has F → IsCanonical Has G
same_bytes Has F G to from c = record {
  aligned = c.aligned;
  apart = c.apart;
  no_halves = c.no_halves;
  free = λ p has at i. to p.chunk at (c.free p has at i);
  covers = λ chunk at g. c.covers chunk at (from chunk at g);
}

module _ (old new : Piece → Type 0) (F : ℕ → ℕ → Type 0) (x : Piece) where
  -- a piece is taken whole
  pub take : IsWith new old x → (new x → ⊥) → IsCanonical old F → IsCanonical new (Without F x)
  take w gone c = record {
    aligned = λ p has. c.aligned p (w.kept p has);
    apart = λ p q hp hq. c.apart p q (w.kept p hp) (w.kept q hq);
    no_halves = λ p q hp hq. c.no_halves p q (w.kept p hp) (w.kept q hq);
    free = λ p has at i. (c.free p (w.kept p has) at i, λ same ix. gone (subst new (c.apart p x (w.kept p has) w.added same at i ix) has));
    covers = λ chunk at f.
        let v = c.covers chunk at f.0 in
        elim (w.cases v.0 v.1) [
          | inl e ↦ absurd (f.1 (sym v.2 ∙ ap (λ p. p.chunk) e) (subst (λ p. InPiece p at) e v.3))
          | inr has ↦ (v.0, has, v.2, v.3)
        ];
  }

  -- a piece is put back whose other half is not kept
  pub put : IsWith old new x → IsMultipleOf (2 ^ x.order) x.start → ((at : ℕ) → InPiece x at → F x.chunk at)
      → ((q : Piece) → old q → AreHalves x q → ⊥) → ((q : Piece) → old q → AreHalves q x → ⊥)
      → ((chunk at : ℕ) → F chunk at → (chunk ≡ x.chunk) × InPiece x at ⊎ Without F x chunk at)
      → IsCanonical old (Without F x) → IsCanonical new F
  put w al inside right left splits c = record {
    aligned = λ p has. elim (w.cases p has) [ inl e ↦ subst (λ q. IsMultipleOf (2 ^ q.order) q.start) (sym e) al | inr h ↦ c.aligned p h ];
    apart = λ p q hp hq same at ip iq. elim (w.cases p hp) [
      | inl e ↦ elim (w.cases q hq) [
        | inl e' ↦ e ∙ sym e'
        | inr h ↦ absurd ((c.free q h at iq).1 (sym same ∙ ap (λ r. r.chunk) e) (subst (λ r. InPiece r at) e ip))
      ]
      | inr h ↦ elim (w.cases q hq) [
        | inl e' ↦ absurd ((c.free p h at ip).1 (same ∙ ap (λ r. r.chunk) e') (subst (λ r. InPiece r at) e' iq))
        | inr h' ↦ c.apart p q h h' same at ip iq
      ]
    ];
    no_halves = λ p q hp hq halves. elim (w.cases p hp) [
      | inl e ↦ elim (w.cases q hq) [
        | inl e' ↦ let b : q.start ≡ p.start + 2 ^ p.order = halves.beside in
            let es : q.start ≡ p.start = ap (λ r. r.start) (e' ∙ sym e) in
            omega (arith, b, es, pow_pos p.order)
        | inr h ↦ right q h (subst (λ r. AreHalves r q) e halves)
      ]
      | inr h ↦ elim (w.cases q hq) [
        | inl e' ↦ left p h (subst (λ r. AreHalves p r) e' halves)
        | inr h' ↦ c.no_halves p q h h' halves
      ]
    ];
    free = λ p has at i. elim (w.cases p has) [
      | inl e ↦ subst (λ o. F o at) (ap (λ r. r.chunk) (sym e)) (inside at (subst (λ r. InPiece r at) e i))
      | inr h ↦ (c.free p h at i).0
    ];
    covers = λ chunk at f. elim (splits chunk at f) [
      | inl here ↦ (x, w.added, sym here.0, here.1)
      | inr other ↦ let v = c.covers chunk at other in (v.0, w.kept v.0 v.1, v.2, v.3)
    ];
  }
