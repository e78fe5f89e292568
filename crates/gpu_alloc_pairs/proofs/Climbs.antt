-- A half that comes back is climbed from, pair by pair.
use Rattle.std.proofs.Common.{◌≡◌, ℕ, ◌+◌, ◌^◌, ◌<◌, ◌≤◌, List, length, Some, None, refl, sym, ◌∙◌, ap, subst, arith}
use Rattle.std.proofs.lemmas.Bool.{cases_lt}
use Rattle.std.proofs.lemmas.List.{get_or_past}
use Rattle.std.proofs.Common.{inl, inr}
use Rattle.std.specs.FinMap as finite
use Rattle.slab.specs.Slab.{Slab, get}
use Rattle.gpu_alloc_base.specs.Chunks.{Chunk}
use Rattle.gpu_alloc_base.specs.declared.piece.Piece.{Piece}
use Rattle.gpu_alloc_base.proofs.Maps.{one_value}
use Rattle.gpu_alloc_pairs.specs.Entry.{Entry}
use Rattle.gpu_alloc_pairs.specs.InHand.{IsReturning, IsTakenBeside}
use Rattle.gpu_alloc_pairs.specs.Lengths.{ComesBack, HasPair, IsFreeAgain, IsWholeAgain, Releases}
use Rattle.gpu_alloc_pairs.specs.Space.{BuddySpace}
use Rattle.gpu_alloc_pairs.specs.Tree.{Pairs, IsHalf, pair_at, no_pairs}
use Rattle.gpu_alloc_pairs.specs.declared.length.Whole.{Whole}
use Rattle.gpu_alloc_pairs.specs.declared.pair.Parent.{Parent}
use Rattle.gpu_alloc_pairs.specs.declared.pair.Side.{Side}
use Rattle.gpu_alloc_pairs.specs.declared.pair.Use.TheVariants.{Taken, Divided}
use Rattle.gpu_alloc_pairs.proofs.Returns.{freed_tree, freed_canonical, freed_kept, freed_back, merged_tree, merged_kept, merged_back, merged_beside, next_divided, returns_next, root, alone}
use Rattle.gpu_alloc_pairs.proofs.Trees.{one_entry, one_use, no_entry}

-- A pair is of one of the lengths that there are.
pub pair_in_range : (lengths : List (Slab Entry)) (n k : ℕ) (e : Entry) → pair_at lengths n k ≡ Some e → n < length lengths
pair_in_range lengths n k e at = elim (cases_lt n (length lengths)) [
  | inl lt ↦ lt
  | inr past ↦ absurd (let none = ap (λ (s : Slab Entry). get s k) (get_or_past lengths n no_pairs past) in no_entry (pair_at lengths n k) e none at)
]

-- what came back has become this half, and the other live blocks are the same
pub record IsClimbed (P Q : Pairs) (s : BuddySpace) (z : Piece) (order key : ℕ) (side : Side) : Type 0 where
  pub now : Piece
  pub of_order : now.order ≡ order
  pub chunk : now.chunk ≡ z.chunk
  pub returning : IsReturning Q s now key side
  pub beside : IsTakenBeside P Q z now

pub climbs_from : (P : Pairs) (s : BuddySpace) (z : Piece) (order key : ℕ) (side : Side) → z.order ≡ order → IsReturning P s z key side → IsClimbed P P s z order key side
climbs_from P s z order key side of_order r = record { now = z; of_order = of_order; chunk = refl; returning = r; beside = record { to = λ p k a h other. (h, other); from = λ p k a h other. (h, other) } }

divided_not_taken : Divided ≡ Taken → ⊥
divided_not_taken e = cc

module _ (P Q R : Pairs) (s : BuddySpace) (z : Piece) (order key : ℕ) (side : Side) (c : IsClimbed P Q s z order key side) where
  abbrev w : Piece
  w = c.now

  here : {X : Type 0} (f : ℕ → X) → f order ≡ f w.order
  here f = ap f (sym c.of_order)

  -- it is free again
  pub climb_stays : Releases Q R order key side None → IsFreeAgain P R s z
  climb_stays told =
      let t = subst (λ n. Releases Q R n key side None) (sym c.of_order) told in
      record {
        tree = freed_tree Q s w key side c.returning t.0 t.1.0.was R t.1.0 t.1.1;
        canonical = freed_canonical Q s w key side c.returning t.0 t.1.0.was R t.1.0 t.1.1;
        less = record {
          to = λ p k a h other. let b = c.beside.to p k a h other in freed_kept Q s w key side c.returning t.0 t.1.0.was R t.1.0 t.1.1 p k a b.0 b.1;
          from = λ p k a h. let b = freed_back Q s w key side c.returning t.0 t.1.0.was R t.1.0 t.1.1 p k a h in c.beside.from p k a b.0 b.1;
        };
      }

  module _ (whole : Whole) (told : Releases Q R order key side (Some whole)) where
    t : Releases Q R w.order key side (Some whole)
    t = subst (λ n. Releases Q R n key side (Some whole)) (sym c.of_order) told

    abbrev e : Entry
    e = t.0

    -- it lies in the chunk of what came back
    same_chunk : e.chunk ≡ z.chunk
    same_chunk =
        let same : c.returning.half.entry ≡ e = one_entry (Q w.order key) c.returning.half.entry e c.returning.half.pair t.1.0 in
        ap (λ (x : Entry). x.chunk) (sym same) ∙ sym c.returning.half.chunk ∙ c.chunk

    -- its pair divided a half, which comes back next
    pub climb_next : (p : Parent) → whole.parent ≡ Some p → IsClimbed P R s z (order + 1) p.key p.side
    climb_next p parent =
        let is = sym t.1.1.1.1.1.1 ∙ parent in
        let half : IsHalf R (record { chunk = e.chunk; start = e.offset; order = w.order + 1 }) p.key p.side Divided = next_divided Q s w key side c.returning e t.1.0 R t.1.1.0 t.1.1.1.0 p is in
        record {
          now = record { chunk = e.chunk; start = e.offset; order = w.order + 1 };
          of_order = ap (λ n. n + 1) c.of_order;
          chunk = same_chunk;
          returning = returns_next Q s w key side c.returning e t.1.0 R t.1.1.0 t.1.1.1.0 p is;
          beside = record {
            to = λ p' k a h other.
                let b = c.beside.to p' k a h other in
                let kept = merged_kept Q s w key side c.returning e t.1.0 R t.1.1.0 t.1.1.1.0 p' k a b.0 b.1 in
                (kept, λ same. divided_not_taken (one_use R s.chunks (merged_tree Q s w key side c.returning e t.1.0 R t.1.1.0 t.1.1.1.0) _ p.key k p.side a Divided Taken half (subst (λ x. IsHalf R x k a Taken) same kept)));
            from = λ p' k a h other. let b = merged_back Q s w key side c.returning e t.1.0 R t.1.1.0 t.1.1.1.0 p' k a h in c.beside.from p' k a b.0 b.1;
          };
        }

    -- its pair was its whole chunk
    pub climb_ends : whole.parent ≡ None → IsWholeAgain P R s z whole.chunk
    climb_ends parent =
        let is = sym t.1.1.1.1.1.1 ∙ parent in
        let r = root Q s w key side c.returning e t.1.0 R t.1.1.0 t.1.1.1.0 is in
        record {
          tree = merged_tree Q s w key side c.returning e t.1.0 R t.1.1.0 t.1.1.1.0;
          whole = record { chunk = e.chunk; start = e.offset; order = w.order + 1 };
          named = sym t.1.1.1.1.0;
          of_piece = same_chunk;
          alone = record { chunk = r.chunk; held = r.held; size = r.size; start = r.offset; alone = alone Q s w key side c.returning e t.1.0 R t.1.1.0 t.1.1.1.0 is };
          beside = merged_beside Q s w key side c.returning e t.1.0 R t.1.1.0 t.1.1.1.0;
          less = record {
            to = λ p k a h other. let b = c.beside.to p k a h other in merged_kept Q s w key side c.returning e t.1.0 R t.1.1.0 t.1.1.1.0 p k a b.0 b.1;
            from = λ p k a h. let b = merged_back Q s w key side c.returning e t.1.0 R t.1.1.0 t.1.1.1.0 p k a h in c.beside.from p k a b.0 b.1;
          };
        }

  -- the pair lies in the chunk
  pub climb_inside : (chunk : Chunk) → finite.get s.chunks z.chunk ≡ Some chunk → 2 ^ (order + 1) ≤ chunk.size
  climb_inside chunk held =
      let l = c.returning.tree.inside w.order key c.returning.half.entry c.returning.half.pair in
      let same : l.chunk ≡ chunk = one_value _ l.chunk chunk l.held (ap (finite.get s.chunks) (sym c.returning.half.chunk ∙ c.chunk) ∙ held) in
      omega (arith, l.inside, ap (λ (x : Chunk). x.size) same, here (λ n. 2 ^ (n + 1)))

-- the half that comes back has a pair
pub has_pair : (P : Pairs) (order key : ℕ) (side : Side) → ComesBack P order key side → HasPair P order key side
has_pair P order key side b = record {
  entry = b.returning.half.entry;
  at = subst (λ n. P n key ≡ Some b.returning.half.entry) b.of_order b.returning.half.pair;
  used = λ free. b.returning.used (sym b.returning.half.used ∙ free);
}

-- and so has what comes back next
pub comes_next : (P Q : Pairs) (order key : ℕ) (side : Side) (whole : Whole) (p : Parent) → ComesBack P order key side → Releases P Q order key side (Some whole) → whole.parent ≡ Some p
    → ComesBack Q (order + 1) p.key p.side
comes_next P Q order key side whole p b told parent =
    let next = climb_next P P Q b.space b.piece order key side (climbs_from P b.space b.piece order key side b.of_order b.returning) whole told p parent in
    record { space = b.space; piece = next.now; of_order = next.of_order; returning = next.returning }
