-- The rows of a slab as a list: each is called otherwise than those after it. And lists after one another.
use Rattle.std.proofs.Common.{◌≡◌, ◌⊎◌, inl, inr, ℕ, ◌+◌, ◌≤◌, Bool, false, true, ◌||◌, List, [], ◌∷◌, ◌++◌, map, Option, Some, None, get_or, nat_eq, refl, sym, ◌∙◌, ap, subst, arith}
use Rattle.std.proofs.lemmas.List.{append-nil, append_assoc}
use Rattle.std.proofs.lemmas.List.Elements.{Contains-get_or, recursion_from_All}
use Rattle.std.proofs.lemmas.Bool.Decides.{nat_tests}
use Rattle.std.proofs.lemmas.Map.Keys.{IsDistinct-cons, IsDistinct-tail}
use Rattle.std.proofs.lemmas.List.Folds.{list_any-append}
use Rattle.std.specs.FinSet as set
use Rattle.std.specs.List.{Contains, IsDistinct, list_any}
use Rattle.std.specs.Ordering.{eq_by_cmp}
use Rattle.slab.specs.Slab.{Slab, entries, entries_from}
use Rattle.slab.proofs.SlabLemmas.{Contains-entries}
use Rattle.gpu_alloc_base.specs.SlabViews.{HasOneKeyEach}
use Rattle.gpu_alloc_base.proofs.Lists.{contains_cases, contains_none, contains_head, contains_later, distinct_push, head_is_other, pushed_cases}
use Rattle.gpu_alloc_base.proofs.ListViews.{AreNamedApart}
use Rattle.gpu_alloc_block.specs.State.{Span, span_cmp}
use Rattle.gpu_alloc_block.proofs.LiveSpans.{span_exact, span_total}
use Rattle.gpu_alloc.specs.Listing.{AreOnce}

-- later entries have greater keys
past : {T : Type 0} (first : ℕ) (slots : List (Option T)) (e : ℕ × T) → Contains (entries_from first slots) e → first ≤ e.0
past first [] e has = absurd (contains_none e has)
past first (None ∷ rest) e has = let later = past (first + 1) rest e has in omega arith
past first (Some row ∷ rest) e has = elim (contains_cases (first, row) e (entries_from (first + 1) rest) has) [
  | inl is ↦ let here : e.0 ≡ first = ap (λ x. x.0) is in omega arith
  | inr h ↦ let later = past (first + 1) rest e h in omega arith
]

module _ {T K : Type 0} (name : T → K) where
  abbrev HaveOneKey : List (ℕ × T) → Type 0
  HaveOneKey es = (a b : ℕ × T) → Contains es a → Contains es b → name a.1 ≡ name b.1 → a.0 ≡ b.0

  apart_from : (first : ℕ) (slots : List (Option T)) → HaveOneKey (entries_from first slots) → AreNamedApart (λ (e : ℕ × T). name e.1) (entries_from first slots)
  apart_from first [] one = tt
  apart_from first (None ∷ rest) one = apart_from (first + 1) rest one
  apart_from first (Some row ∷ rest) one =
      let es = entries_from (first + 1) rest in (
        λ a has same.
            let key : a.0 ≡ first = one a (first, row) (contains_later (first, row) a es has) (contains_head (first, row) es) same in
            let later = past (first + 1) rest a has in
            omega arith,
        apart_from (first + 1) rest (λ a b has_a has_b. one a b (contains_later (first, row) a es has_a) (contains_later (first, row) b es has_b)),
      )

  -- no two keys have one name, so no name is listed twice
  pub rows_apart : (s : Slab T) → HasOneKeyEach name s → AreNamedApart (λ (e : ℕ × T). name e.1) (entries s)
  rows_apart s once = apart_from 0 s.slots (λ a b has_a has_b same. once a.0 b.0 a.1 b.1 ((Contains-entries s a.0 a.1).0 has_a) ((Contains-entries s b.0 b.1).0 has_b) same)

-- what a list of names has is an element's name
pub named : {E K : Type 0} (f : E → K) (es : List E) (y : K) → Contains (map f es) y → (e : E) × Contains es e × (f e ≡ y)
named f [] y has = absurd (contains_none y has)
named f (e ∷ es) y has = elim (contains_cases (f e) y (map f es) has) [
  | inl is ↦ (e, contains_head e es, sym is)
  | inr h ↦ let found = named f es y h in (found.0, contains_later e found.0 es found.1, found.2)
]

pub appended_cases : {X : Type 0} (xs ys : List X) (y : X) → Contains (xs ++ ys) y → Contains xs y ⊎ Contains ys y
appended_cases [] ys y has = inr has
appended_cases (x ∷ xs) ys y has = elim (contains_cases x y (xs ++ ys) has) [
  | inl is ↦ inl (subst (Contains (x ∷ xs)) (sym is) (contains_head x xs))
  | inr h ↦ elim (appended_cases xs ys y h) [ inl was ↦ inl (contains_later x y xs was) | inr is ↦ inr is ]
]

-- a loop that pushes what each element gives ends with all of it
pub pushed_all : {E X : Type 0} (f : E → X) (old rows : List X) (es rest : List E) → rest ≡ [] → rows ++ map f rest ≡ old ++ map f es → rows ≡ old ++ map f es
pushed_all f old rows es rest none is = sym (append-nil rows) ∙ subst (λ (r : List _). rows ++ map f r ≡ old ++ map f es) none is

pub mapped_twice : {E X Y : Type 0} (f : E → X) (g : X → Y) (h : E → Y) → ((e : E) → g (f e) ≡ h e) → (es : List E) → map g (map f es) ≡ map h es
mapped_twice f g h is [] = refl
mapped_twice f g h is (e ∷ es) = λ k. is e k ∷ mapped_twice f g h is es k

-- Spans that stand once.

or_turns : (a b : Bool) → (a || b) ≡ (b || a)
or_turns true true = refl
or_turns true false = refl
or_turns false true = refl
or_turns false false = refl

-- the spans of two lists, one after the other
pub spans_append : (xs ys : List Span) → set.from_list {R = span_cmp} (xs ++ ys) ≡ set.union (set.from_list ys) (set.from_list xs)
spans_append xs ys = set.same_set span_total span_exact _ _ (λ q.
    set.contains-from_list span_total (xs ++ ys) q ∙ list_any-append (eq_by_cmp span_cmp q) xs ys ∙ or_turns (list_any (eq_by_cmp span_cmp q) xs) (list_any (eq_by_cmp span_cmp q) ys)
    ∙ sym (set.contains-union span_total (set.from_list ys) (set.from_list xs) q ∙ (λ k. set.contains-from_list span_total ys q k || set.contains-from_list span_total xs q k)))

pub once_named : {E : Type 0} (f : E → Span) (es : List E) → AreNamedApart f es → AreOnce (map f es)
once_named f [] apart = tt
once_named f (e ∷ es) apart = (λ y has same. let found = named f es y has in apart.0 found.0 found.1 (found.2 ∙ same), once_named f es apart.1)

pub once_append : (xs ys : List Span) → AreOnce xs → AreOnce ys → ((y : Span) → Contains xs y → Contains ys y → ⊥) → AreOnce (xs ++ ys)
once_append [] ys xs_once ys_once apart = ys_once
once_append (x ∷ xs) ys xs_once ys_once apart = (
  λ y has same. elim (appended_cases xs ys y has) [
    | inl was ↦ xs_once.0 y was same
    | inr is ↦ apart x (contains_head x xs) (subst (Contains ys) same is)
  ],
  once_append xs ys xs_once.1 ys_once (λ y has. apart y (contains_later x y xs has)),
)

-- Numbers that stand once.

flips : (x y : ℕ) → nat_eq x y ≡ nat_eq y x
flips x y = grind (arith, nat_tests)

differs : (x y : ℕ) → (x ≡ y → ⊥) → nat_eq x y ≡ false
differs x y ne = grind (arith, nat_tests, ne)

not_same : (x : ℕ) → nat_eq x x ≡ false → ⊥
not_same x e = grind (arith, nat_tests, e)

pub distinct_append : (xs ys : List ℕ) → IsDistinct nat_eq xs → IsDistinct nat_eq ys → ((q : ℕ) → Contains xs q → Contains ys q → ⊥) → IsDistinct nat_eq (xs ++ ys)
distinct_append xs [] xs_once ys_once apart = subst (IsDistinct nat_eq) (sym (append-nil xs)) xs_once
distinct_append xs (y ∷ ys) xs_once ys_once apart =
    subst (IsDistinct nat_eq) (append_assoc xs (y ∷ []) ys) (distinct_append (xs ++ y ∷ []) ys
    (distinct_push nat_eq flips xs y xs_once (λ q has. differs y q (λ same. apart y (subst (Contains xs) (sym same) has) (contains_head y ys))))
    (IsDistinct-tail nat_eq y ys ys_once)
    (λ q has also. elim (pushed_cases xs (xs ++ y ∷ []) y refl q has) [
      | inl was ↦ apart q was (contains_later y q ys also)
      | inr is ↦ not_same y (head_is_other nat_eq y y ys ys_once (subst (Contains ys) is also))
    ]))

none_distinct : IsDistinct nat_eq []
unfolding IsDistinct
none_distinct = tt

pub distinct_named : {E : Type 0} (f : E → ℕ) (es : List E) → AreNamedApart f es → IsDistinct nat_eq (map f es)
distinct_named f [] apart = none_distinct
distinct_named f (e ∷ es) apart =
    IsDistinct-cons nat_eq (f e) (map f es)
    (recursion_from_All (λ y. nat_eq (f e) y ≡ false) (map f es) (λ k d lt. differs (f e) (get_or (map f es) k d) (λ same.
    let found = named f es (get_or (map f es) k d) (Contains-get_or (map f es) k d lt) in apart.0 found.0 found.1 (found.2 ∙ sym same))))
    (distinct_named f es apart.1)
