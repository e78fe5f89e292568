-- A range is in hand and is split: first a free half that is taken, or a new chunk, then the left half of each pair that
-- divides what was in hand.
use Rattle.std.proofs.Common.{◌≡◌, ℕ, ◌+◌, ◌*◌, ◌^◌, inl, inr, Bool, true, false, Option, Some, None, refl, sym, ◌∙◌, ap, subst, arith}
use Rattle.std.proofs.lemmas.Nat.{pow_pos}
use Rattle.std.specs.FinMap as finite
use Rattle.gpu_alloc_base.specs.Chunks.{Chunk}
use Rattle.gpu_alloc_base.specs.FreeSpace.{IsMultipleOf}
use Rattle.gpu_alloc_base.specs.Pieces.{InPiece, IsCanonical, Without, IsWith, joined}
use Rattle.gpu_alloc_base.specs.declared.piece.Piece.{Piece}
use Rattle.gpu_alloc_base.proofs.AlignedPowers.{doubled, left-aligned}
use Rattle.gpu_alloc_base.proofs.ExactPieces.{same_piece}
use Rattle.gpu_alloc_base.proofs.Maps.{one_value}
use Rattle.gpu_alloc_pairs.specs.Entry.{Entry, use_of, taken_as, half_start}
use Rattle.gpu_alloc_pairs.specs.InHand.{SetsHalf, AddsPair, IsHandAt, IsSplitting, IsTakenOut, IsTakenSame, IsTakenMore}
use Rattle.gpu_alloc_pairs.specs.Lengths.{dividing}
use Rattle.gpu_alloc_pairs.specs.Space.{BuddySpace, IsFreeAt}
use Rattle.gpu_alloc_pairs.specs.Tree.{Pairs, IsHalf, IsReady, IsPlaced, IsUndivided, PairLiesIn, IsTree}
use Rattle.gpu_alloc_pairs.specs.declared.pair.Parent.{Parent}
use Rattle.gpu_alloc_pairs.specs.declared.pair.Side.{Side}
use Rattle.gpu_alloc_pairs.specs.declared.pair.Side.TheVariants.{Left, Right}
use Rattle.gpu_alloc_pairs.specs.declared.pair.Use.{Use}
use Rattle.gpu_alloc_pairs.specs.declared.pair.Use.TheVariants.{Free, Taken, Divided}
use Rattle.gpu_alloc_pairs.proofs.PieceHalves.{split}
use Rattle.gpu_alloc_pairs.proofs.PieceSteps.{take}
use Rattle.gpu_alloc_pairs.proofs.Space.{free_lies}
use Rattle.gpu_alloc_pairs.proofs.Trees.{piece_at, pair_halves, one_entry, one_half, undivided, no_entry}
use Rattle.gpu_alloc_pairs.proofs.TreeSteps.{at_place, half_set, piece_set, this_or_other, half_kept, half_back, half_less, half_gone, ready_less, tree_after_set, half_cases, half_stays, half_added, ready_with, tree_with}

-- What is in hand.

-- what is not free is not free as what it is taken as
pub not_free : (d : Bool) → taken_as d ≡ Free → ⊥
not_free true e = cc
not_free false e = cc

-- A free half is taken.

free_not_divided : (u : Use) → u ≡ Free → u ≡ Divided → ⊥
free_not_divided u a b = cc

module _ (P Q : Pairs) (s : BuddySpace) (order key : ℕ) (side : Side) (e : Entry) (d : Bool) (sets : SetsHalf P Q order key side e (taken_as d)) (free : use_of e side ≡ Free) where
  pub taken_out : IsTree P s.chunks → IsCanonical (IsReady P) (IsFreeAt s) → IsTakenOut Q s (piece_at order e side) key side d
  taken_out t c =
      let whole : IsUndivided P order key side = undivided P s.chunks t order key e side sets.was (free_not_divided (use_of e side) free) in
      let tree : IsTree Q s.chunks = tree_after_set P Q order key side e (taken_as d) sets s.chunks t (inr whole) in
      let less : IsWith (IsReady Q) (IsReady P) (piece_at order e side) = ready_less P Q order key side e (taken_as d) sets free (not_free d) in
      record {
        tree = tree;
        half = half_set P Q order key side e (taken_as d) sets;
        whole = still_whole whole;
        beside = record {
          canonical = take (IsReady P) (IsReady Q) (IsFreeAt s) (piece_at order e side) less (λ r. half_gone P Q order key side e (taken_as d) sets Free (not_free d) r.key r.side r.half s.chunks tree) c;
          aligned = c.aligned (piece_at order e side) less.added;
          inside = λ at i. c.free (piece_at order e side) less.added at i;
        };
      }
    where
      still_whole : IsUndivided P order key side → IsUndivided Q order key side
      still_whole w below child f step at parent =
          w below child f step (sym (sets.others below child (λ a _. omega (arith, a, step))) ∙ at) parent

-- Another pair divides what is in hand.

abbrev pub left_half : Piece → ℕ → Piece
left_half z order = record { chunk = z.chunk; start = z.start; order = order }

module _ (P Q : Pairs) (s : BuddySpace) (z : Piece) (o : Option Parent) (order key : ℕ) (d : Bool) (one_more : z.order ≡ order + 1) (adds : AddsPair P Q order key (dividing z o d)) where
  abbrev e : Entry
  e = dividing z o d

  module _ (i : IsSplitting P s z o) where
    length : 2 ^ z.order ≡ 2 ^ (order + 1)
    length = ap (λ n. 2 ^ n) one_more

    placed : (q : Option Parent) → IsHandAt P s.chunks z q → IsPlaced P s.chunks order (dividing z q d) q
    placed None h = record { chunk = h.chunk; held = h.held; size = h.size ∙ length; offset = h.start }
    placed (Some p) h = record {
      above = h.half.entry;
      pair = subst (λ n. P n p.key ≡ Some h.half.entry) one_more h.half.pair;
      divided = h.half.used;
      chunk = h.half.chunk;
      offset = h.half.start ∙ ap (λ n. half_start n h.half.entry.offset p.side) length;
    }

    aligned : IsMultipleOf (2 ^ (order + 1)) z.start
    aligned = (i.beside.aligned.0, i.beside.aligned.1 ∙ ap (λ n. i.beside.aligned.0 * n) length)

    inside : PairLiesIn s.chunks order e
    inside = let l = free_lies s z (λ at j. i.beside.inside at j) in record { chunk = l.held; held = l.is; inside = omega (arith, l.inside, length) }

    -- no other pair of the length lies there
    alone : (q : Option Parent) → IsHandAt P s.chunks z q → (k : ℕ) (f : Entry) → P order k ≡ Some f → f.chunk ≡ z.chunk → f.offset ≡ z.start → ⊥
    alone None h k f at chunk offset = h.alone order k f at chunk
    alone (Some p) h k f at chunk offset = by_parent f.parent refl (i.tree.placed order k f at)
      where
        by_parent : (q : Option Parent) → f.parent ≡ q → IsPlaced P s.chunks order f q → ⊥
        by_parent None is root =
            let l = i.tree.inside z.order p.key h.half.entry h.half.pair in
            let same : l.chunk ≡ root.chunk = one_value _ l.chunk root.chunk (ap (finite.get s.chunks) (chunk ∙ h.half.chunk) ∙ l.held) root.held in
            omega (arith, l.inside, ap (λ (c : Chunk). c.size) same, root.size, doubled z.order, length, pow_pos z.order)
        by_parent (Some q) is above =
            let other : IsHalf P z q.key q.side Divided = record {
              entry = above.above;
              pair = subst (λ n. P n q.key ≡ Some above.above) (sym one_more) above.pair;
              chunk = sym chunk ∙ above.chunk;
              start = sym offset ∙ above.offset ∙ ap (λ n. half_start n above.above.offset q.side) (sym length);
              used = above.divided;
            } in
            let same = one_half P s.chunks i.tree z q.key p.key q.side p.side Divided Divided other h.half in
            h.whole order k f (sym one_more) at (is ∙ ap Some (λ j. record { key = same.0 j; side = same.1 j }))

    tree_now : IsTree Q s.chunks
    tree_now = tree_with P Q order key e adds s.chunks i.tree (placed o i.hand) aligned inside (alone o i.hand)

    -- no pair divides its halves yet
    whole_now : (a : Side) → IsUndivided Q order key a
    whole_now a below child f step at parent =
        let was : P below child ≡ Some f = sym (adds.others below child (λ x _. omega (arith, x, step))) ∙ at in
        let d = subst (IsPlaced P s.chunks below f) parent (i.tree.placed below child f was) in
        no_entry (P order key) d.above adds.vacant (subst (λ n. P n key ≡ Some d.above) step d.pair)

    is_joined : joined (piece_at order e Left) ≡ z
    is_joined = same_piece (joined (piece_at order e Left)) z refl refl (sym one_more)

    -- its left half is in hand then
    pub halved : IsTakenOut Q s (left_half z order) key Left d
    halved = record {
      tree = tree_now;
      half = half_added P Q order key e adds Left;
      whole = whole_now Left;
      beside = record {
        canonical = split (piece_at order e Left) (piece_at order e Right) (pair_halves order e aligned) (IsReady P) (IsReady Q) (IsFreeAt s)
            (ready_with P Q order key e adds Right refl (not_free d))
            (λ at j. i.beside.inside at (subst (λ (x : Piece). InPiece x at) is_joined j))
            (subst (λ (x : Piece). IsCanonical (IsReady P) (Without (IsFreeAt s) x)) (sym is_joined) i.beside.canonical);
        aligned = left-aligned z.start order (aligned.0, aligned.1 ∙ ap (λ n. aligned.0 * 2 ^ n) (omega arith));
        inside = λ at j. i.beside.inside at (record { from = j.from; to = omega (arith, j.to, length, doubled order) });
      };
    }

-- what is taken out to be divided is split next
pub splits_next : (Q : Pairs) (s : BuddySpace) (z : Piece) (key : ℕ) (side : Side) → IsTakenOut Q s z key side true → IsSplitting Q s z (Some (record { key = key; side = side }))
splits_next Q s z key side out = record { tree = out.tree; hand = record { half = out.half; whole = out.whole }; beside = out.beside }

-- Which halves are live blocks.

pub same_then_same : (P Q R : Pairs) → IsTakenSame P Q → IsTakenSame Q R → IsTakenSame P R
same_then_same P Q R a b = record { to = λ p k x h. b.to p k x (a.to p k x h); from = λ p k x h. a.from p k x (b.from p k x h) }

pub same_then_more : (P Q R : Pairs) (z : Piece) (key : ℕ) (side : Side) → IsTakenSame P Q → IsTakenMore Q R z key side → IsTakenMore P R z key side
same_then_more P Q R z key side a b = record {
  kept = λ p k x h. b.kept p k x (a.to p k x h);
  added = b.added;
  cases = λ p k x h. elim (b.cases p k x h) [ inl is ↦ inl is | inr was ↦ inr (a.from p k x was) ];
}

divided_not_taken : Divided ≡ Taken → ⊥
divided_not_taken e = cc

pub free_not_taken : Free ≡ Taken → ⊥
free_not_taken e = cc

-- a free half is taken, to be divided or as a block
module _ (P Q : Pairs) (order key : ℕ) (side : Side) (e : Entry) (free : use_of e side ≡ Free) (at : P order key ≡ Some e) where
  -- what is taken already is another half
  was_other : (p : Piece) (k : ℕ) (a : Side) → IsHalf P p k a Taken → p.order ≡ order → k ≡ key → a ≡ side → ⊥
  was_other p k a h x y w =
      let is : h.entry ≡ e = one_entry (P order key) h.entry e (at_place P order key p.order k h.entry x y h.pair) at in
      free_not_taken (sym free ∙ ap (use_of e) (sym w) ∙ ap (λ (f : Entry). use_of f a) (sym is) ∙ h.used)

  pub taken_divided : SetsHalf P Q order key side e Divided → IsTakenSame P Q
  taken_divided sets = record {
    to = λ p k a h. half_kept P Q order key side e Divided sets p k a Taken (was_other p k a h) h;
    from = λ p k a h. half_less P Q order key side e Divided sets Taken divided_not_taken p k a h;
  }

  pub taken_whole : SetsHalf P Q order key side e Taken → IsTakenMore P Q (piece_at order e side) key side
  taken_whole sets = record {
    kept = λ p k a h. half_kept P Q order key side e Taken sets p k a Taken (was_other p k a h) h;
    added = half_set P Q order key side e Taken sets;
    cases = λ p k a h. elim (this_or_other P Q order key side e Taken sets p k a) [
      | inl this ↦ inl ((piece_set P Q order key side e Taken sets p k a Taken this.0 this.1.0 this.1.1 h).0, this.1)
      | inr other ↦ inr (half_back P Q order key side e Taken sets p k a Taken other h)
    ];
  }

-- a pair comes whose right half is free
module _ (P Q : Pairs) (order key : ℕ) (e : Entry) (adds : AddsPair P Q order key e) (right : e.right ≡ Free) where
  pub added_divided : e.left ≡ Divided → IsTakenSame P Q
  added_divided left = record {
    to = λ p k a h. half_stays P Q order key e adds p k a Taken h;
    from = λ p k a h. elim (half_cases P Q order key e adds p k a Taken h) [ inl here ↦ absurd (neither a here.1.1) | inr was ↦ was ];
  }
    where
      neither : (a : Side) → use_of e a ≡ Taken → ⊥
      neither Left is = divided_not_taken (sym left ∙ is)
      neither Right is = free_not_taken (sym right ∙ is)

  pub added_whole : e.left ≡ Taken → IsTakenMore P Q (piece_at order e Left) key Left
  added_whole left = record {
    kept = λ p k a h. half_stays P Q order key e adds p k a Taken h;
    added = subst (IsHalf Q (piece_at order e Left) key Left) left (half_added P Q order key e adds Left);
    cases = λ p k a h. elim (half_cases P Q order key e adds p k a Taken h) [ inl here ↦ inl (one a here.0 here.1.0 here.1.1) | inr was ↦ inr was ];
  }
    where
      one : {p : Piece} {k : ℕ} (a : Side) → k ≡ key → p ≡ piece_at order e a → use_of e a ≡ Taken → (p ≡ piece_at order e Left) × ((k ≡ key) × (a ≡ Left))
      one Left named lies is = (lies, (named, refl))
      one Right named lies is = absurd (free_not_taken (sym right ∙ is))
