-- Members of lists that are mapped or filtered.
use Rattle.std.proofs.Common.{◌≡◌, inl, inr, Bool, true, false, cond, List, [], ◌∷◌, get_or, map, All, refl, sym, ◌∙◌, ap, subst}
use Rattle.std.proofs.lemmas.List.Elements.{All-head, All-tail, Contains-get_or, recursion_from_All}
use Rattle.std.proofs.lemmas.Map.Keys.{IsDistinct-tail, IsDistinct-cons}
use Rattle.std.specs.List.{Contains, IsDistinct, filter}
use Rattle.gpu_alloc_base.proofs.Lists.{contains_cases, contains_none, contains_head, contains_later, head_is_other}

module _ {X Y : Type 0} (f : X → Y) where
  -- an element of a mapped list was one of the list
  pub from_mapped : (xs : List X) (y : Y) → Contains (map f xs) y → (x : X) × Contains xs x × (f x ≡ y)
  from_mapped [] y has = absurd (contains_none y has)
  from_mapped (x ∷ xs) y has = elim (contains_cases (f x) y (map f xs) has) [
    | inl is ↦ (x, contains_head x xs, sym is)
    | inr later ↦ let found = from_mapped xs y later in (found.0, contains_later x found.0 xs found.1, found.2)
  ]

module _ {X : Type 0} (p : X → Bool) where
  -- a list whose elements all pass is kept whole, and nothing is kept of one whose elements all fail
  pub filter_all : (xs : List X) → All (λ x. p x ≡ true) xs → filter p xs ≡ xs
  filter_all [] all = refl
  filter_all (x ∷ xs) all = rw (All-head (λ y. p y ≡ true) x xs all) (ap (λ ys. x ∷ ys) (filter_all xs (All-tail (λ y. p y ≡ true) x xs all)))

  pub filter_none : (xs : List X) → All (λ x. p x ≡ false) xs → filter p xs ≡ []
  filter_none [] all = refl
  filter_none (x ∷ xs) all = rw (All-head (λ y. p y ≡ false) x xs all) (filter_none xs (All-tail (λ y. p y ≡ false) x xs all))

  -- what is kept was there and passes, and what was there and passes is kept
  pub from_filtered : (xs : List X) (x : X) → Contains (filter p xs) x → Contains xs x × (p x ≡ true)
  from_filtered [] x has = absurd (contains_none x has)
  from_filtered (y ∷ ys) x has = elim (p y) as (λ b. p y ≡ b → Contains (cond b (y ∷ filter p ys) (filter p ys)) x → Contains (y ∷ ys) x × (p x ≡ true)) [
    | true ↦ λ e has. elim (contains_cases y x (filter p ys) has) [
      | inl is ↦ (subst (Contains (y ∷ ys)) (sym is) (contains_head y ys), ap p is ∙ e)
      | inr later ↦ let found = from_filtered ys x later in (contains_later y x ys found.0, found.1)
    ]
    | false ↦ λ e has. let found = from_filtered ys x has in (contains_later y x ys found.0, found.1)
  ] refl has

  pub to_filtered : (xs : List X) (x : X) → Contains xs x → p x ≡ true → Contains (filter p xs) x
  to_filtered [] x has passes = absurd (contains_none x has)
  to_filtered (y ∷ ys) x has passes = elim (p y) as (λ b. p y ≡ b → Contains (cond b (y ∷ filter p ys) (filter p ys)) x) [
    | true ↦ λ e. elim (contains_cases y x ys has) [
      | inl is ↦ subst (Contains (y ∷ filter p ys)) (sym is) (contains_head y (filter p ys))
      | inr later ↦ contains_later y x (filter p ys) (to_filtered ys x later passes)
    ]
    | false ↦ λ e. elim (contains_cases y x ys has) [
      | inl is ↦ let never : true ≡ false = sym passes ∙ ap p is ∙ e in absurd (cc)
      | inr later ↦ to_filtered ys x later passes
    ]
  ] refl

-- what is true of each member is true of each by recursion
pub each_member : {X : Type 0} (P : X → Type 0) (xs : List X) → ((x : X) → Contains xs x → P x) → All P xs
each_member P xs each k d lt = each (get_or xs k d) (Contains-get_or xs k d lt)

-- those that pass, mapped, are told apart by a second test where the first tells them apart
module _ {X Y : Type 0} (f : X → Y) (p : X → Bool) (e : X → X → Bool) (e' : Y → Y → Bool) where
  pub distinct_kept : (xs : List X) → IsDistinct e xs
      → ((x y : X) → Contains xs x → Contains xs y → p x ≡ true → p y ≡ true → e x y ≡ false → e' (f x) (f y) ≡ false) → IsDistinct e' (map f (filter p xs))
  unfolding IsDistinct
  distinct_kept [] apart tells = apart
  distinct_kept (x ∷ xs) apart tells =
      let rest = distinct_kept xs (IsDistinct-tail e x xs apart) (λ a b in_a in_b. tells a b (contains_later x a xs in_a) (contains_later x b xs in_b)) in
      elim (p x) as (λ b. p x ≡ b → IsDistinct e' (map f (cond b (x ∷ filter p xs) (filter p xs)))) [
        | true ↦ λ passes. IsDistinct-cons e' (f x) (map f (filter p xs)) (recursion_from_All _ _ (each_member _ _ (λ z has.
            let found = from_mapped f (filter p xs) z has in
            let kept = from_filtered p xs found.0 found.1 in
            let other = head_is_other e x found.0 xs apart kept.0 in
            subst (λ w. e' (f x) w ≡ false) found.2 (tells x found.0 (contains_head x xs) (contains_later x found.0 xs kept.0) passes kept.1 other)))) rest
        | false ↦ λ fails. rest
      ] refl
