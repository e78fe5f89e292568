-- The lists of what a store holds: the held chunks and the live blocks, each once.
use Rattle.std.proofs.Common.{◌≡◌, ◌≢◌, ℕ, ◌^◌, ◌<◌, ◌≤◌, Bool, false, List, [], ◌∷◌, ◌++◌, map, take, Some, refl, sym, ◌∙◌, ap, subst, arith}
use Rattle.std.proofs.lemmas.List.{take_all}
use Rattle.std.proofs.lemmas.Map.Keys.{IsDistinct-cons}
use Rattle.std.specs.FinMap as finite
use Rattle.std.specs.List.{AllByRecursion, Contains, IsDistinct}
use Rattle.std.specs.Ordering.{eq_by_cmp}
use Rattle.slab.specs.Slab.{Slab}
use Rattle.gpu_alloc_base.specs.Accounts.{HeldChunks}
use Rattle.gpu_alloc_base.specs.Chunks.{Chunk as HeldChunk}
use Rattle.gpu_alloc_base.specs.Leaves.{leaf_cmp}
use Rattle.gpu_alloc_base.specs.declared.buddy_block.Leaf.{Leaf}
use Rattle.gpu_alloc_base.proofs.Leaves.{leaf_test}
use Rattle.gpu_alloc_base.proofs.ListViews.{AreNamedApart}
use Rattle.gpu_alloc_base.proofs.Lists.{contains_head, contains_later}
use Rattle.gpu_alloc_base.proofs.Maps.{other_key}
use Rattle.gpu_alloc_pairs.specs.Entry.{Entry, use_of}
use Rattle.gpu_alloc_pairs.specs.Halves.{HalfAt, half_at, half_used, halves_from, leaf_of, live_leaves}
use Rattle.gpu_alloc_pairs.specs.HeldLists.{AddsLeaves}
use Rattle.gpu_alloc_pairs.specs.Space.{BuddySpace, IsSoundBuddySpace}
use Rattle.gpu_alloc_pairs.specs.Store.{IsStored}
use Rattle.gpu_alloc_pairs.specs.Tree.{IsHalf, pair_at}
use Rattle.gpu_alloc_pairs.specs.declared.pair.Side.{Side}
use Rattle.gpu_alloc_pairs.specs.declared.pair.Use.TheVariants.{Taken}
use Rattle.gpu_alloc_pairs.proofs.PutsBack.{same_order}
use Rattle.gpu_alloc_pairs.proofs.Halves.{halves_apart, halves_are, same_use-from_eq}
use Rattle.gpu_alloc_pairs.proofs.Trees.{one_half}

-- Names that stand once.

module _ {E K : Type 0} (f : E → K) where
  -- where only one element has a name, what is apart is apart by name
  apart_by_name : (es : List E) → AreNamedApart (λ (e : E). e) es → ((a b : E) → Contains es a → Contains es b → f a ≡ f b → a ≡ b) → AreNamedApart f es
  apart_by_name [] apart one = tt
  apart_by_name (e ∷ es) apart one = (
    λ a has same. apart.0 a has (one a e (contains_later e a es has) (contains_head e es) same),
    apart_by_name es apart.1 (λ a b has_a has_b. one a b (contains_later e a es has_a) (contains_later e b es has_b)),
  )

  module _ (eq : K → K → Bool) (differs : (a b : K) → a ≢ b → eq a b ≡ false) where
    all_others : (k : K) (es : List E) → ((e : E) → Contains es e → f e ≢ k) → AllByRecursion (λ y. eq k y ≡ false) (map f es)
    all_others k [] other = tt
    all_others k (e ∷ es) other = (differs k (f e) (λ same. other e (contains_head e es) (sym same)), all_others k es (λ a has. other a (contains_later e a es has)))

    -- each element is called otherwise than those after it
    distinct_named : (es : List E) → AreNamedApart f es → IsDistinct eq (map f es)
    unfolding IsDistinct
    distinct_named [] apart = tt
    distinct_named (e ∷ es) apart = IsDistinct-cons eq (f e) (map f es) (all_others (f e) es apart.0) (distinct_named es apart.1)

-- Chunks.

-- a chunk has at most 2^63 bytes
pub short_order : (s : BuddySpace) (key order : ℕ) (chunk : HeldChunk) → IsSoundBuddySpace s → finite.get s.chunks key ≡ Some chunk → chunk.size ≡ 2 ^ order → order < 64
short_order s key order chunk sound held size =
    let power = sound.powers key chunk held in
    omega (arith, power.1.0, same_order order power.0 (sym size ∙ power.1.1))

-- Live blocks.

-- a taken half is its block
pub half_listed : (chunks : HeldChunks) (order key : ℕ) (e : Entry) (side : Side) (leaf : Leaf) → use_of e side ≡ Taken → leaf_of chunks (half_at order key e side) ≡ leaf
    → map (leaf_of chunks) (half_used Taken order key e side) ≡ leaf ∷ []
half_listed chunks order key e side leaf taken is = rw (same_use-from_eq (use_of e side) Taken taken) (λ j. is j ∷ [])

module _ (chunks : HeldChunks) (lengths : List (Slab Entry)) (i : IsStored chunks lengths) where
  -- two taken halves that are one block are one
  one_block : (a b : HalfAt) → IsHalf (pair_at lengths) a.piece a.key a.side Taken → IsHalf (pair_at lengths) b.piece b.key b.side Taken → leaf_of chunks a ≡ leaf_of chunks b → a ≡ b
  one_block a b of_a of_b same =
      let chunk : a.piece.chunk ≡ b.piece.chunk = ap (λ (l : Leaf). l.chunk) same in
      let start : a.piece.start ≡ b.piece.start = ap (λ (l : Leaf). l.offset) same in
      let order : a.piece.order ≡ b.piece.order = same_order a.piece.order b.piece.order (ap (λ (l : Leaf). l.size) same) in
      let piece : a.piece ≡ b.piece = λ j. record { chunk = chunk j; start = start j; order = order j } in
      let one = one_half (pair_at lengths) chunks i.tree b.piece a.key b.key a.side b.side Taken Taken (subst (λ p. IsHalf (pair_at lengths) p a.key a.side Taken) piece of_a) of_b in
      λ j. record { piece = piece j; key = one.0 j; side = one.1 j }

  leaves_once : IsDistinct (eq_by_cmp leaf_cmp) (map (leaf_of chunks) (halves_from Taken 0 lengths))
  leaves_once =
      let halves = halves_from Taken 0 lengths in
      distinct_named (leaf_of chunks) (eq_by_cmp leaf_cmp) (other_key leaf_cmp leaf_test) halves
      (apart_by_name (leaf_of chunks) halves (halves_apart Taken 0 lengths) (λ a b has_a has_b. one_block a b ((halves_are lengths Taken a).0 has_a) ((halves_are lengths Taken b).0 has_b)))

  -- a loop over all lengths
  pub adds_leaves : (n : ℕ) (old new : List Leaf) → 63 ≤ n → new ≡ old ++ map (leaf_of chunks) (halves_from Taken 0 (take n lengths)) → AddsLeaves (live_leaves chunks lengths) old new
  adds_leaves n old new past is = record {
    own = map (leaf_of chunks) (halves_from Taken 0 lengths);
    added = is ∙ ap (λ l. old ++ map (leaf_of chunks) (halves_from Taken 0 l)) (take_all n lengths (omega (arith, i.count, past)));
    exact = refl;
    once = leaves_once;
  }
