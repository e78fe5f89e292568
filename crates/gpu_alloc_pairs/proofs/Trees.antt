-- What follows of a tree of pairs: each half is one piece, and each piece one half.
use Rattle.std.proofs.Common.{◌≡◌, ℕ, ◌+◌, ◌*◌, ◌^◌, ◌⊎◌, inl, inr, Option, Some, None, refl, sym, ◌∙◌, ap, subst, arith}
use Rattle.std.proofs.lemmas.Nat.{pow_pos}
use Rattle.gpu_alloc_base.specs.Accounts.{HeldChunks}
use Rattle.gpu_alloc_base.specs.FreeSpace.{IsIn, IsMultipleOf}
use Rattle.gpu_alloc_base.specs.Pieces.{AreHalves}
use Rattle.gpu_alloc_base.specs.declared.piece.Piece.{Piece}
use Rattle.gpu_alloc_base.proofs.AlignedPowers.{lies_in, doubled}
use Rattle.gpu_alloc_base.proofs.ExactPieces.{same_piece}
use Rattle.gpu_alloc_pairs.specs.Entry.{Entry, use_of, with_use, other_side, half_start}
use Rattle.gpu_alloc_pairs.specs.Tree.{Pairs, IsHalf, IsReady, IsPlaced, IsUndivided, IsTree}
use Rattle.gpu_alloc_pairs.specs.declared.pair.Side.{Side}
use Rattle.gpu_alloc_pairs.specs.declared.pair.Side.TheVariants.{Left, Right}
use Rattle.gpu_alloc_pairs.specs.declared.pair.Use.{Use}
use Rattle.gpu_alloc_pairs.specs.declared.pair.Use.TheVariants.{Free, Divided}
use Rattle.gpu_alloc_pairs.proofs.OtherHalves.{no_left, no_right}

-- Sides.

pub cases_side : (a b : Side) → (a ≡ b) ⊎ (a ≡ b → ⊥)
cases_side Left Left = inl refl
cases_side Right Right = inl refl
cases_side Left Right = inr (λ e. cc)
cases_side Right Left = inr (λ e. cc)

-- the sides of one pair are told apart by their starts
side_from_start : (order offset : ℕ) (a b : Side) → half_start (2 ^ order) offset a ≡ half_start (2 ^ order) offset b → a ≡ b
side_from_start order offset Left Left h = refl
side_from_start order offset Right Right h = refl
side_from_start order offset Left Right h = absurd (omega (arith, h, pow_pos order))
side_from_start order offset Right Left h = absurd (omega (arith, h, pow_pos order))

pub use_now : (e : Entry) (side : Side) (now : Use) → use_of (with_use e side now) side ≡ now
use_now e Left now = refl
use_now e Right now = refl

pub use_beside : (e : Entry) (side a : Side) (now : Use) → (a ≡ side → ⊥) → use_of (with_use e side now) a ≡ use_of e a
use_beside e Left Left now other = absurd (other refl)
use_beside e Left Right now other = refl
use_beside e Right Left now other = refl
use_beside e Right Right now other = absurd (other refl)

pub same_chunk_with : (e : Entry) (side : Side) (now : Use) → (with_use e side now).chunk ≡ e.chunk
same_chunk_with e Left now = refl
same_chunk_with e Right now = refl

pub same_offset_with : (e : Entry) (side : Side) (now : Use) → (with_use e side now).offset ≡ e.offset
same_offset_with e Left now = refl
same_offset_with e Right now = refl

pub same_parent_with : (e : Entry) (side : Side) (now : Use) → (with_use e side now).parent ≡ e.parent
same_parent_with e Left now = refl
same_parent_with e Right now = refl

pub side_or_other : (side a : Side) → (a ≡ side) ⊎ (a ≡ other_side side)
side_or_other Left Left = inl refl
side_or_other Left Right = inr refl
side_or_other Right Left = inr refl
side_or_other Right Right = inl refl

-- A pair's halves as pieces.

abbrev pub piece_at : ℕ → Entry → Side → Piece
piece_at order e side = record { chunk = e.chunk; start = half_start (2 ^ order) e.offset side; order = order }

pub half_of : (P : Pairs) (order key : ℕ) (e : Entry) (side : Side) → P order key ≡ Some e → IsHalf P (piece_at order e side) key side (use_of e side)
half_of P order key e side at = record { entry = e; pair = at; chunk = refl; start = refl; used = refl }

-- a half's piece is determined by its pair
pub piece_is : (P : Pairs) (p : Piece) (key : ℕ) (side : Side) (now : Use) (h : IsHalf P p key side now) → p ≡ piece_at p.order h.entry side
piece_is P p key side now h = same_piece p (piece_at p.order h.entry side) h.chunk h.start refl

pub one_entry : (o : Option Entry) (e f : Entry) → o ≡ Some e → o ≡ Some f → e ≡ f
one_entry o e f a b = cc

pub no_entry : (o : Option Entry) (e : Entry) → o ≡ None → o ≡ Some e → ⊥
no_entry o e a b = cc

-- the two pieces of a pair are the halves of one range
pub pair_halves : (order : ℕ) (e : Entry) → IsMultipleOf (2 ^ (order + 1)) e.offset → AreHalves (piece_at order e Left) (piece_at order e Right)
pair_halves order e aligned = record {
  chunk = refl;
  order = refl;
  beside = refl;
  aligned = (aligned.0, aligned.1 ∙ ap (λ n. aligned.0 * n) (doubled order));
}

pub side_halves : (order : ℕ) (e : Entry) (side : Side) → IsMultipleOf (2 ^ (order + 1)) e.offset
    → AreHalves (piece_at order e side) (piece_at order e (other_side side)) ⊎ AreHalves (piece_at order e (other_side side)) (piece_at order e side)
side_halves order e Left aligned = inl (pair_halves order e aligned)
side_halves order e Right aligned = inr (pair_halves order e aligned)

-- two aligned ranges of one length that share a byte are one
same_range : (a b m at : ℕ) → IsMultipleOf (2 ^ m) a → IsMultipleOf (2 ^ m) b → IsIn a (2 ^ m) at → IsIn b (2 ^ m) at → a ≡ b
same_range a b m at al bl ia ib =
    let l = lies_in a m b m at al bl (omega arith) ia ib in
    let r = lies_in b m a m at bl al (omega arith) ib ia in
    omega (arith, l.0, r.0)

-- a half starts in its pair's range
half_in : (order offset : ℕ) (side : Side) → IsIn offset (2 ^ (order + 1)) (half_start (2 ^ order) offset side)
half_in order offset Left = record { from = omega arith; to = omega (arith, pow_pos (order + 1)) }
half_in order offset Right = record { from = omega arith; to = omega (arith, doubled order, pow_pos order) }

module _ (P : Pairs) (chunks : HeldChunks) (t : IsTree P chunks) where
  -- a piece is a half of one pair at most
  pub one_half : (p : Piece) (k l : ℕ) (a b : Side) (u v : Use) → IsHalf P p k a u → IsHalf P p l b v → (k ≡ l) × (a ≡ b)
  one_half p k l a b u v h g =
      let e = h.entry in
      let f = g.entry in
      let same : e.offset ≡ f.offset = same_range e.offset f.offset (p.order + 1) p.start (t.aligned p.order k e h.pair) (t.aligned p.order l f g.pair)
      (subst (IsIn e.offset (2 ^ (p.order + 1))) (sym h.start) (half_in p.order e.offset a))
      (subst (IsIn f.offset (2 ^ (p.order + 1))) (sym g.start) (half_in p.order f.offset b)) in (
        t.one_place p.order k l e f h.pair g.pair (sym h.chunk ∙ g.chunk) same,
        side_from_start p.order f.offset a b (ap (λ n. half_start (2 ^ p.order) n a) (sym same) ∙ sym h.start ∙ g.start),
      )

  -- and is used in one way
  pub one_use : (p : Piece) (k l : ℕ) (a b : Side) (u v : Use) → IsHalf P p k a u → IsHalf P p l b v → u ≡ v
  one_use p k l a b u v h g =
      let same = one_half p k l a b u v h g in
      let entry : h.entry ≡ g.entry = one_entry (P p.order l) h.entry g.entry (subst (λ n. P p.order n ≡ Some h.entry) same.0 h.pair) g.pair in
      sym h.used ∙ ap (λ (x : Entry). use_of x a) entry ∙ ap (use_of g.entry) same.1 ∙ g.used

  -- two pieces that are one half are one
  pub one_piece : (p q : Piece) (k : ℕ) (a : Side) (u v : Use) → p.order ≡ q.order → IsHalf P p k a u → IsHalf P q k a v → p ≡ q
  one_piece p q k a u v same h g =
      let entry : h.entry ≡ g.entry = one_entry (P p.order k) h.entry g.entry h.pair (subst (λ n. P n k ≡ Some g.entry) (sym same) g.pair) in
      piece_is P p k a u h ∙ ap (λ n. piece_at n h.entry a) same ∙ ap (λ x. piece_at q.order x a) entry ∙ sym (piece_is P q k a v g)

  -- only a half that is said to be divided is divided
  pub undivided : (order key : ℕ) (e : Entry) (side : Side) → P order key ≡ Some e → (use_of e side ≡ Divided → ⊥) → IsUndivided P order key side
  undivided order key e side at whole below child f step pair parent =
      let d = subst (IsPlaced P chunks below f) parent (t.placed below child f pair) in
      let same : d.above ≡ e = one_entry (P order key) d.above e (subst (λ n. P n key ≡ Some d.above) step d.pair) at in
      whole (ap (λ (x : Entry). use_of x side) (sym same) ∙ d.divided)

  -- where the other half of a pair is not free, no free half joins with this one
  module _ (order key : ℕ) (e : Entry) (side : Side) (at : P order key ≡ Some e) (used : use_of e (other_side side) ≡ Free → ⊥) where
    not_ready : IsReady P (piece_at order e (other_side side)) → ⊥
    not_ready r = used (one_use _ key r.key (other_side side) r.side _ Free (half_of P order key e (other_side side) at) r.half)

    pub no_right_half : (q : Piece) → IsReady P q → AreHalves (piece_at order e side) q → ⊥
    no_right_half q ready halves = no_right _ _ (IsReady P) (side_halves order e side (t.aligned order key e at)) not_ready q ready halves

    pub no_left_half : (q : Piece) → IsReady P q → AreHalves q (piece_at order e side) → ⊥
    no_left_half q ready halves = no_left _ _ (IsReady P) (side_halves order e side (t.aligned order key e at)) not_ready q ready halves
