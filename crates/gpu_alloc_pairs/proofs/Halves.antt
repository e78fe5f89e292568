-- The halves that are listed are those that there are, and what that says of free pieces and of live blocks.
use Rattle.std.proofs.Common.{◌≡◌, ◌≢◌, ◌⊎◌, ◌↔◌, inl, inr, ℕ, zero, suc, ◌+◌, ◌^◌, true, false, cond, List, [], ◌∷◌, ◌++◌, map, get_or, ◌==◌, ◌&&◌, Some, None, IsTrue, refl, sym, ◌∙◌, ap, subst, arith}
use Rattle.std.specs.List.{Contains, IsDistinct, flat_map}
use Rattle.std.specs.FinSet as set
use Rattle.std.proofs.lemmas.List.Elements.{Contains-append_cases, Contains-append_left, Contains-append_right, Contains-get_or, recursion_from_All}
use Rattle.std.proofs.lemmas.Map.Keys.{IsDistinct-cons}
use Rattle.std.proofs.lemmas.Nat.{pow_pos}
use Rattle.std.proofs.lemmas.Bool.Decides.{Decides-eqb, same_from_decides}
use mathlib.Core.Bool.{true≢false}
use Rattle.slab.specs.Slab.{Slab, get, entries}
use Rattle.slab.proofs.SlabLemmas.{Contains-entries}
use Rattle.gpu_alloc_base.specs.Accounts.{HeldChunks}
use Rattle.gpu_alloc_base.specs.Leaves.{leaf_cmp}
use Rattle.gpu_alloc_base.specs.Pieces.{InPiece, IsCanonical, same_place}
use Rattle.gpu_alloc_base.specs.declared.buddy_block.Leaf.{Leaf}
use Rattle.gpu_alloc_base.specs.declared.piece.Piece.{Piece}
use Rattle.gpu_alloc_base.proofs.Leaves.{leaf_total, leaf_exact, in_leaves, leaf_inserted, leaf_removed}
use Rattle.gpu_alloc_base.proofs.ListViews.{AreNamedApart}
use Rattle.gpu_alloc_base.proofs.Lists.{contains_head, contains_later, contains_cases, contains_none}
use Rattle.gpu_alloc_base.proofs.SlabViews.{keys_apart}
use Rattle.gpu_alloc_pairs.specs.Entry.{Entry, use_of, half_start}
use Rattle.gpu_alloc_pairs.specs.Halves.{HalfAt, same_use, half_at, half_used, halves_of_pair, halves_of_length, halves_from, free_pieces, leaf_of, live_leaves}
use Rattle.gpu_alloc_pairs.specs.Tree.{Pairs, no_pairs, pair_at, IsHalf, IsReady}
use Rattle.gpu_alloc_pairs.specs.declared.pair.Side.{Side}
use Rattle.gpu_alloc_pairs.specs.declared.pair.Side.TheVariants.{Left, Right}
use Rattle.gpu_alloc_pairs.specs.declared.pair.Use.{Use}
use Rattle.gpu_alloc_pairs.specs.declared.pair.Use.TheVariants.{Free, Taken, Divided}

-- Members of a list that is made of another's.

module _ {X Y : Type 0} where
  pub in_map : (f : X → Y) (xs : List X) (y : Y) → Contains (map f xs) y → (x : X) × Contains xs x × (f x ≡ y)
  in_map f [] y has = absurd (contains_none y has)
  in_map f (x ∷ xs) y has = elim (contains_cases (f x) y (map f xs) has) [
    | inl is ↦ (x, contains_head x xs, sym is)
    | inr h ↦ let found = in_map f xs y h in (found.0, contains_later x found.0 xs found.1, found.2)
  ]

  pub to_map : (f : X → Y) (xs : List X) (x : X) → Contains xs x → Contains (map f xs) (f x)
  to_map f [] x has = absurd (contains_none x has)
  to_map f (z ∷ xs) x has = elim (contains_cases z x xs has) [
    | inl is ↦ subst (λ w. Contains (f z ∷ map f xs) (f w)) (sym is) (contains_head (f z) (map f xs))
    | inr h ↦ contains_later (f z) (f x) (map f xs) (to_map f xs x h)
  ]

  pub in_flat_map : (f : X → List Y) (xs : List X) (y : Y) → Contains (flat_map f xs) y → (x : X) × Contains xs x × Contains (f x) y
  in_flat_map f [] y has = absurd (contains_none y has)
  in_flat_map f (x ∷ xs) y has = elim (Contains-append_cases (f x) (flat_map f xs) y has) [
    | inl here ↦ (x, contains_head x xs, here)
    | inr h ↦ let found = in_flat_map f xs y h in (found.0, contains_later x found.0 xs found.1, found.2)
  ]

  pub to_flat_map : (f : X → List Y) (xs : List X) (x : X) (y : Y) → Contains xs x → Contains (f x) y → Contains (flat_map f xs) y
  to_flat_map f [] x y has of = absurd (contains_none x has)
  to_flat_map f (z ∷ xs) x y has of = elim (contains_cases z x xs has) [
    | inl is ↦ Contains-append_left (f z) (flat_map f xs) y (subst (λ w. Contains (f w) y) is of)
    | inr h ↦ Contains-append_right (f z) (flat_map f xs) y (to_flat_map f xs x y h of)
  ]

-- Uses.

pub same_use-true : (a b : Use) → same_use a b ≡ true → a ≡ b
same_use-true Free Free e = refl
same_use-true Free Taken e = absurd (cc)
same_use-true Free Divided e = absurd (cc)
same_use-true Taken Free e = absurd (cc)
same_use-true Taken Taken e = refl
same_use-true Taken Divided e = absurd (cc)
same_use-true Divided Free e = absurd (cc)
same_use-true Divided Taken e = absurd (cc)
same_use-true Divided Divided e = refl

same_use-itself : (a : Use) → same_use a a ≡ true
same_use-itself Free = refl
same_use-itself Taken = refl
same_use-itself Divided = refl

pub same_use-from_eq : (a b : Use) → a ≡ b → same_use a b ≡ true
same_use-from_eq a b e = subst (λ x. same_use a x ≡ true) e (same_use-itself a)

-- The halves of one pair.

pub in_half : (now : Use) (n k : ℕ) (e : Entry) (side : Side) (h : HalfAt) → Contains (half_used now n k e side) h → (h ≡ half_at n k e side) × (use_of e side ≡ now)
in_half now n k e side h has =
    elim (same_use (use_of e side) now) as (λ b. same_use (use_of e side) now ≡ b → Contains (cond b (half_at n k e side ∷ []) []) h → (h ≡ half_at n k e side) × (use_of e side ≡ now)) [
      | true ↦ λ is has. elim (contains_cases (half_at n k e side) h [] has) [
        | inl here ↦ (here, same_use-true (use_of e side) now is)
        | inr none ↦ absurd (contains_none h none)
      ]
      | false ↦ λ is has. absurd (contains_none h has)
    ] refl has

pub to_half : (now : Use) (n k : ℕ) (e : Entry) (side : Side) → use_of e side ≡ now → Contains (half_used now n k e side) (half_at n k e side)
to_half now n k e side used = rw (same_use-from_eq (use_of e side) now used) (contains_head (half_at n k e side) [])

in_pair : (now : Use) (n k : ℕ) (e : Entry) (h : HalfAt) → Contains (halves_of_pair now n (k, e)) h → (side : Side) × (h ≡ half_at n k e side) × (use_of e side ≡ now)
in_pair now n k e h has = elim (Contains-append_cases (half_used now n k e Left) (half_used now n k e Right) h has) [
  | inl left ↦ let is = in_half now n k e Left h left in (Left, is.0, is.1)
  | inr right ↦ let is = in_half now n k e Right h right in (Right, is.0, is.1)
]

to_pair : (now : Use) (n k : ℕ) (e : Entry) (side : Side) → use_of e side ≡ now → Contains (halves_of_pair now n (k, e)) (half_at n k e side)
to_pair now n k e Left used = Contains-append_left (half_used now n k e Left) (half_used now n k e Right) _ (to_half now n k e Left used)
to_pair now n k e Right used = Contains-append_right (half_used now n k e Left) (half_used now n k e Right) _ (to_half now n k e Right used)

-- The halves of one length.

-- a half of a pair among these, which is used so
record IsAt (pairs : Slab Entry) (h : HalfAt) (now : Use) : Type 0 where
  pub entry : Entry
  pub pair : get pairs h.key ≡ Some entry
  pub chunk : h.piece.chunk ≡ entry.chunk
  pub start : h.piece.start ≡ half_start (2 ^ h.piece.order) entry.offset h.side
  pub used : use_of entry h.side ≡ now

in_length : (now : Use) (n : ℕ) (pairs : Slab Entry) (h : HalfAt) → Contains (halves_of_length now n pairs) h → (h.piece.order ≡ n) × IsAt pairs h now
unfolding halves_of_length
in_length now n pairs h has =
    let found = in_flat_map (halves_of_pair now n) (entries pairs) h has in
    let k : ℕ = found.0.0 in
    let e : Entry = found.0.1 in
    let is = in_pair now n k e h found.2 in
    let at : IsAt pairs (half_at n k e is.0) now = record { entry = e; pair = (Contains-entries pairs k e).0 found.1; chunk = refl; start = refl; used = is.2 } in
    subst (λ (x : HalfAt). (x.piece.order ≡ n) × IsAt pairs x now) (sym is.1) (refl, at)

to_length : (now : Use) (pairs : Slab Entry) (h : HalfAt) → IsAt pairs h now → Contains (halves_of_length now h.piece.order pairs) h
unfolding halves_of_length
to_length now pairs h at =
    let there = to_pair now h.piece.order h.key at.entry h.side at.used in
    let same : half_at h.piece.order h.key at.entry h.side ≡ h =
    λ i. record { piece = record { chunk = sym at.chunk i; start = sym at.start i; order = h.piece.order }; key = h.key; side = h.side } in
    to_flat_map (halves_of_pair now h.piece.order) (entries pairs) (h.key, at.entry) h ((Contains-entries pairs h.key at.entry).1 at.pair)
    (subst (Contains (halves_of_pair now h.piece.order (h.key, at.entry))) same there)

-- The halves of all lengths.

in_lengths : (now : Use) (n : ℕ) (lengths : List (Slab Entry)) (h : HalfAt) → Contains (halves_from now n lengths) h
    → (i : ℕ) × (h.piece.order ≡ n + i) × IsAt (get_or lengths i no_pairs) h now
unfolding halves_from
in_lengths now n [] h has = absurd (contains_none h has)
in_lengths now n (pairs ∷ rest) h has = elim (Contains-append_cases (halves_of_length now n pairs) (halves_from now (n + 1) rest) h has) [
  | inl here ↦ let is = in_length now n pairs h here in (0, omega (arith, is.0), is.1)
  | inr there ↦ let is = in_lengths now (n + 1) rest h there in (suc is.0, omega (arith, is.1), is.2)
]

to_lengths : (now : Use) (n : ℕ) (lengths : List (Slab Entry)) (h : HalfAt) (i : ℕ) → h.piece.order ≡ n + i → IsAt (get_or lengths i no_pairs) h now
    → Contains (halves_from now n lengths) h
unfolding halves_from
to_lengths now n [] h i order at = absurd (let none : None ≡ Some at.entry = at.pair in cc)
to_lengths now n (pairs ∷ rest) h zero order at =
    let is : h.piece.order ≡ n = omega (arith, order) in
    Contains-append_left (halves_of_length now n pairs) (halves_from now (n + 1) rest) h
    (subst (λ m. Contains (halves_of_length now m pairs) h) is (to_length now pairs h at))
to_lengths now n (pairs ∷ rest) h (suc i) order at =
    Contains-append_right (halves_of_length now n pairs) (halves_from now (n + 1) rest) h
    (to_lengths now (n + 1) rest h i (omega (arith, order)) at)

-- a half is listed exactly where there is such a half
pub halves_are : (lengths : List (Slab Entry)) (now : Use) (h : HalfAt) → Contains (halves_from now 0 lengths) h ↔ IsHalf (pair_at lengths) h.piece h.key h.side now
halves_are lengths now h = (
  λ has.
      let found = in_lengths now 0 lengths h has in
      let same : found.0 ≡ h.piece.order = omega (arith, found.1) in
      let at : IsAt (get_or lengths h.piece.order no_pairs) h now = subst (λ i. IsAt (get_or lengths i no_pairs) h now) same found.2 in
      record { entry = at.entry; pair = at.pair; chunk = at.chunk; start = at.start; used = at.used },
  λ is. to_lengths now 0 lengths h h.piece.order (omega arith) (record { entry = is.entry; pair = is.pair; chunk = is.chunk; start = is.start; used = is.used }),
)

-- a free piece is listed exactly where there is one
pub free_pieces_are : (lengths : List (Slab Entry)) (p : Piece) → Contains (free_pieces lengths) p ↔ IsReady (pair_at lengths) p
free_pieces_are lengths p = (
  λ has.
      let found = in_map (λ (h : HalfAt). h.piece) (halves_from Free 0 lengths) p has in
      subst (IsReady (pair_at lengths)) found.2 (record { key = found.0.key; side = found.0.side; half = (halves_are lengths Free found.0).0 found.1 }),
  λ is.
      let h : HalfAt = record { piece = p; key = is.key; side = is.side } in
      to_map (λ (x : HalfAt). x.piece) (halves_from Free 0 lengths) h ((halves_are lengths Free h).1 is.half),
)

-- a block is live exactly where there is a half that is taken, and it is its block
pub live_leaves_are : (chunks : HeldChunks) (lengths : List (Slab Entry)) (leaf : Leaf)
    → IsTrue (set.contains (live_leaves chunks lengths) leaf) ↔ ((h : HalfAt) × (IsHalf (pair_at lengths) h.piece h.key h.side Taken × (leaf_of chunks h ≡ leaf)))
live_leaves_are chunks lengths leaf =
    let d = in_leaves (map (leaf_of chunks) (halves_from Taken 0 lengths)) leaf in (
      λ t.
          let found = in_map (leaf_of chunks) (halves_from Taken 0 lengths) leaf (d.0 t) in
          (found.0, ((halves_are lengths Taken found.0).0 found.1, found.2)),
      λ is.
          d.1 (subst (Contains (map (leaf_of chunks) (halves_from Taken 0 lengths))) is.1.1
          (to_map (leaf_of chunks) (halves_from Taken 0 lengths) is.0 ((halves_are lengths Taken is.0).1 is.1.0))),
    )

-- Sets of live blocks.

-- two with the same members are equal
pub same_live : (s t : set.FinSet leaf_cmp) → ((q : Leaf) → IsTrue (set.contains s q) → IsTrue (set.contains t q))
    → ((q : Leaf) → IsTrue (set.contains t q) → IsTrue (set.contains s q)) → s ≡ t
same_live s t to from = set.same_set leaf_total leaf_exact s t (λ q. same_from_decides _ _ ((λ h. h), λ h. h) ((from q), to q))

-- one more
pub live_more : (old new : set.FinSet leaf_cmp) (leaf : Leaf)
    → ((q : Leaf) → IsTrue (set.contains new q) ↔ ((q ≡ leaf) ⊎ IsTrue (set.contains old q))) → new ≡ set.insert old leaf
live_more old new leaf are = same_live new (set.insert old leaf)
    (λ q t. (leaf_inserted old leaf q).1 ((are q).0 t))
    (λ q t. (are q).1 ((leaf_inserted old leaf q).0 t))

-- one less
pub live_less : (old new : set.FinSet leaf_cmp) (leaf : Leaf)
    → ((q : Leaf) → IsTrue (set.contains new q) ↔ ((q ≢ leaf) × IsTrue (set.contains old q))) → new ≡ set.remove old leaf
live_less old new leaf are = same_live new (set.remove old leaf)
    (λ q t. (leaf_removed old leaf q).1 ((are q).0 t))
    (λ q t. (are q).1 ((leaf_removed old leaf q).0 t))

-- No free piece is listed twice.

module _ {Y K : Type 0} (name : Y → K) where
  apart_append : (xs ys : List Y) → AreNamedApart name xs → AreNamedApart name ys → ((a b : Y) → Contains xs a → Contains ys b → name b ≢ name a) → AreNamedApart name (xs ++ ys)
  apart_append [] ys of_xs of_ys others = of_ys
  apart_append (x ∷ xs) ys of_xs of_ys others = (
    λ a has. elim (Contains-append_cases xs ys a has) [
      | inl before ↦ of_xs.0 a before
      | inr after ↦ others x a (contains_head x xs) after
    ],
    apart_append xs ys of_xs.1 of_ys (λ a b has_a has_b. others a b (contains_later x a xs has_a) has_b),
  )

  apart_flat_map : {X L : Type 0} (g : X → L) (f : X → List Y) (xs : List X) → AreNamedApart g xs → ((x : X) → AreNamedApart name (f x))
      → ((x z : X) (a b : Y) → Contains (f x) a → Contains (f z) b → name b ≡ name a → g z ≡ g x) → AreNamedApart name (flat_map f xs)
  apart_flat_map g f [] apart each same = tt
  apart_flat_map g f (x ∷ xs) apart each same =
      apart_append (f x) (flat_map f xs) (each x) (apart_flat_map g f xs apart.1 each same)
      (λ a b has_a has_b is. let found = in_flat_map f xs b has_b in apart.0 found.0 found.1 (same x found.0 a b has_a found.2 is))

apart_half : (now : Use) (n k : ℕ) (e : Entry) (side : Side) → AreNamedApart (λ (h : HalfAt). h) (half_used now n k e side)
apart_half now n k e side = elim (same_use (use_of e side) now) as (λ b. AreNamedApart (λ (h : HalfAt). h) (cond b (half_at n k e side ∷ []) [])) [
  | true ↦ (λ a has. absurd (contains_none a has), tt)
  | false ↦ tt
]

apart_pair : (now : Use) (n : ℕ) (pair : ℕ × Entry) → AreNamedApart (λ (h : HalfAt). h) (halves_of_pair now n pair)
apart_pair now n (k, e) = apart_append (λ h. h) (half_used now n k e Left) (half_used now n k e Right) (apart_half now n k e Left) (apart_half now n k e Right)
    (λ a b has_a has_b same.
    let left : a.side ≡ Left = ap (λ (h : HalfAt). h.side) (in_half now n k e Left a has_a).0 in
    let right : b.side ≡ Right = ap (λ (h : HalfAt). h.side) (in_half now n k e Right b has_b).0 in
    let both : b.side ≡ a.side = ap (λ (h : HalfAt). h.side) same in
    absurd (cc))

apart_length : (now : Use) (n : ℕ) (pairs : Slab Entry) → AreNamedApart (λ (h : HalfAt). h) (halves_of_length now n pairs)
unfolding halves_of_length
apart_length now n pairs = apart_flat_map (λ h. h) (λ (e : ℕ × Entry). e.0) (halves_of_pair now n) (entries pairs) (keys_apart pairs) (apart_pair now n)
    (λ x z a b has_a has_b same.
    let of_a : a.key ≡ x.0 = ap (λ (h : HalfAt). h.key) (in_pair now n x.0 x.1 a has_a).1 in
    let of_b : b.key ≡ z.0 = ap (λ (h : HalfAt). h.key) (in_pair now n z.0 z.1 b has_b).1 in
    sym of_b ∙ ap (λ (h : HalfAt). h.key) same ∙ of_a)

-- no half is listed twice
pub halves_apart : (now : Use) (n : ℕ) (lengths : List (Slab Entry)) → AreNamedApart (λ (h : HalfAt). h) (halves_from now n lengths)
unfolding halves_from
halves_apart now n [] = tt
halves_apart now n (pairs ∷ rest) = apart_append (λ h. h) (halves_of_length now n pairs) (halves_from now (n + 1) rest) (apart_length now n pairs) (halves_apart now (n + 1) rest)
    (λ a b has_a has_b same.
    let of_a = (in_length now n pairs a has_a).0 in
    let of_b = in_lengths now (n + 1) rest b has_b in
    let orders : b.piece.order ≡ a.piece.order = ap (λ (h : HalfAt). h.piece.order) same in
    omega (arith, of_a, of_b.1))

-- two pieces that start at one byte
same_place-true : (p q : Piece) → same_place p q ≡ true → (p.chunk ≡ q.chunk) × (p.start ≡ q.start)
same_place-true p q t =
    elim (p.chunk == q.chunk) as (λ b. (p.chunk == q.chunk) ≡ b → (b && (p.start == q.start)) ≡ true → (p.chunk ≡ q.chunk) × (p.start ≡ q.start)) [
      | true ↦ λ e t. ((Decides-eqb p.chunk q.chunk).0 e, (Decides-eqb p.start q.start).0 t)
      | false ↦ λ _ t. absurd (true≢false (sym t))
    ] refl t

same_place-false : (p q : Piece) → (same_place p q ≡ true → ⊥) → same_place p q ≡ false
same_place-false p q h = elim (same_place p q) as (λ b. same_place p q ≡ b → b ≡ false) [ true ↦ λ e. absurd (h e) | false ↦ λ _. refl ] refl

module _ (P : Pairs) (F : ℕ → ℕ → Type 0) (canonical : IsCanonical (IsReady P) F)
    (one_half : (p : Piece) (k l : ℕ) (a b : Side) → IsHalf P p k a Free → IsHalf P p l b Free → (k ≡ l) × (a ≡ b)) where
  -- two free halves that start at one byte are one
  one_place : (g h : HalfAt) → IsHalf P g.piece g.key g.side Free → IsHalf P h.piece h.key h.side Free → same_place g.piece h.piece ≡ true → g ≡ h
  one_place g h of_g of_h is =
      let place = same_place-true g.piece h.piece is in
      let in_g : InPiece g.piece g.piece.start = record { from = omega arith; to = omega (arith, pow_pos g.piece.order) } in
      let in_h : InPiece h.piece g.piece.start = record { from = omega (arith, place.1); to = omega (arith, place.1, pow_pos h.piece.order) } in
      let pieces : g.piece ≡ h.piece = canonical.apart g.piece h.piece (record { key = g.key; side = g.side; half = of_g }) (record { key = h.key; side = h.side; half = of_h }) place.0 g.piece.start in_g in_h in
      let names = one_half h.piece g.key h.key g.side h.side (subst (λ p. IsHalf P p g.key g.side Free) pieces of_g) of_h in
      λ i. record { piece = pieces i; key = names.0 i; side = names.1 i }

  distinct_pieces : (hs : List HalfAt) → ((h : HalfAt) → Contains hs h → IsHalf P h.piece h.key h.side Free) → AreNamedApart (λ (h : HalfAt). h) hs
      → IsDistinct same_place (map (λ h. h.piece) hs)
  unfolding IsDistinct
  distinct_pieces [] are apart = tt
  distinct_pieces (h ∷ hs) are apart =
      let pieces : List Piece = map (λ x. x.piece) hs in
      let others : (y : Piece) → Contains pieces y → same_place h.piece y ≡ false = λ y has.
      let found = in_map (λ (x : HalfAt). x.piece) hs y has in
      same_place-false h.piece y (λ is. apart.0 found.0 found.1
      (sym (one_place h found.0 (are h (contains_head h hs)) (are found.0 (contains_later h found.0 hs found.1)) (ap (same_place h.piece) found.2 ∙ is)))) in
      IsDistinct-cons same_place h.piece pieces
      (recursion_from_All (λ y. same_place h.piece y ≡ false) pieces (λ k d lt. others (get_or pieces k d) (Contains-get_or pieces k d lt)))
      (distinct_pieces hs (λ x has. are x (contains_later h x hs has)) apart.1)

-- no two free pieces that are listed start at one byte
pub free_pieces_once : (F : ℕ → ℕ → Type 0) (lengths : List (Slab Entry)) → IsCanonical (IsReady (pair_at lengths)) F
    → ((p : Piece) (k l : ℕ) (a b : Side) → IsHalf (pair_at lengths) p k a Free → IsHalf (pair_at lengths) p l b Free → (k ≡ l) × (a ≡ b))
    → IsDistinct same_place (free_pieces lengths)
free_pieces_once F lengths canonical one_half =
    distinct_pieces (pair_at lengths) F canonical one_half (halves_from Free 0 lengths) (λ h has. (halves_are lengths Free h).0 has) (halves_apart Free 0 lengths)
