-- Members of a list as one is added or taken off.
use Rattle.std.proofs.Common.{◌≡◌, ℕ, zero, suc, ◌+◌, Bool, true, false, cond, ◌<◌, ◌≤◌, ◌∙◌, ap, ◌⊎◌, inl, inr, List, [], ◌∷◌, ◌++◌, length, get_or, refl, sym, subst, arith, Option, None, Some, IsSome}
use Rattle.std.specs.List.{All, Contains, IsDistinct, AllByRecursion, swap_remove, prefix_len}
use Rattle.std.specs.List.Sorted.{IsPermutation}
use Rattle.std.proofs.lemmas.List.Sorted.{IsPermutation-swap_remove, IsPermutation-sym, IsPermutation-to_front, Contains-permutation}
use Rattle.std.proofs.lemmas.List.Elements.{Contains-get_or, Contains-push_cases, recursion_from_All}
use Rattle.std.proofs.lemmas.Map.Keys.{IsDistinct-head, IsDistinct-tail, IsDistinct-cons, IsDistinct-IsPermutation}

module _ {X : Type 0} where
  pub contains_head : (x : X) (xs : List X) → Contains (x ∷ xs) x
  contains_head x xs = (0, omega (arith), refl)

  pub contains_later : (x y : X) (xs : List X) → Contains xs y → Contains (x ∷ xs) y
  contains_later x y xs (k, lt, e) = (suc k, omega arith, e)

  pub contains_cases : (x y : X) (xs : List X) → Contains (x ∷ xs) y → (y ≡ x) ⊎ Contains xs y
  contains_cases x y xs (zero, lt, e) = inl (sym e)
  contains_cases x y xs (suc k, lt, e) = inr (k, omega arith, e)

  pub contains_none : (y : X) → Contains [] y → ⊥
  contains_none y (k, lt, e) = omega (arith, lt)

  all_at : (P : X → Type 0) (xs : List X) (y : X) → AllByRecursion P xs → Contains xs y → P y
  all_at P [] y a has = absurd (contains_none y has)
  all_at P (x ∷ xs) y a has = elim (contains_cases x y xs has) [ inl e ↦ subst P (sym e) a.0 | inr h ↦ all_at P xs y a.1 h ]

  -- what holds of each element, by place, holds of each member
  pub all_contained : (P : X → Type 0) (xs : List X) (y : X) → All P xs → Contains xs y → P y
  all_contained P xs y all (k, lt, e) = subst P e (all k y lt)

  -- no later element is equal to the head
  pub head_is_other : (e : X → X → Bool) (x y : X) (xs : List X) → IsDistinct e (x ∷ xs) → Contains xs y → e x y ≡ false
  head_is_other e x y xs d has = all_at (λ z. e x z ≡ false) xs y (IsDistinct-head e x xs d) has

  -- ys is xs without x, which no element of ys is equal to
  pub record IsLess (e : X → X → Bool) (xs ys : List X) (x : X) : Type 0 where
    pub distinct : IsDistinct e ys
    pub other : (y : X) → Contains ys y → e x y ≡ false
    pub kept : (y : X) → Contains ys y → Contains xs y
    pub had : Contains xs x
    pub cases : (y : X) → Contains xs y → (y ≡ x) ⊎ Contains ys y

  -- xs has one element more than ys, in any order
  pub less_permuted : (e : X → X → Bool) → ((x y : X) → e x y ≡ e y x) → (xs ys : List X) (x : X) → IsDistinct e xs → IsPermutation xs (x ∷ ys) → IsLess e xs ys x
  less_permuted e flips xs ys x d perm =
      let back : IsPermutation (x ∷ ys) xs = IsPermutation-sym xs (x ∷ ys) perm in
      let d' : IsDistinct e (x ∷ ys) = IsDistinct-IsPermutation e flips xs (x ∷ ys) perm d in
      record {
        distinct = IsDistinct-tail e x ys d';
        other = λ y h. head_is_other e x y ys d' h;
        kept = λ y h. Contains-permutation (x ∷ ys) xs y back (contains_later x y ys h);
        had = Contains-permutation (x ∷ ys) xs x back (contains_head x ys);
        cases = λ y h. contains_cases x y ys (Contains-permutation xs (x ∷ ys) y perm h);
      }

  -- what `swap_remove` leaves
  pub less : (e : X → X → Bool) → ((x y : X) → e x y ≡ e y x) → (xs ys : List X) (i : ℕ) (x : X) → IsDistinct e xs → i < length xs
      → x ≡ get_or xs i x → ys ≡ swap_remove xs i x → IsLess e xs ys x
  less e flips xs ys i x d lt is left = less_permuted e flips xs ys x d (subst (λ zs. IsPermutation xs (x ∷ zs)) (sym left) (IsPermutation-swap_remove xs i x lt is))

  -- what a push leaves was there, or is new
  pub pushed_cases : (xs ys : List X) (x : X) → ys ≡ xs ++ x ∷ [] → (y : X) → Contains ys y → Contains xs y ⊎ (y ≡ x)
  pushed_cases xs ys x pushed y has = elim (Contains-push_cases xs x y (subst (λ zs. Contains zs y) pushed has)) [ inl old ↦ inl old | inr new ↦ inr (sym new) ]

  -- one more, which no element is equal to
  pub distinct_push : (e : X → X → Bool) → ((x y : X) → e x y ≡ e y x) → (xs : List X) (x : X) → IsDistinct e xs → ((y : X) → Contains xs y → e x y ≡ false)
      → IsDistinct e (xs ++ x ∷ [])
  distinct_push e flips xs x d other =
      IsDistinct-IsPermutation e flips (x ∷ xs) (xs ++ x ∷ []) (IsPermutation-sym (xs ++ x ∷ []) (x ∷ xs) (IsPermutation-to_front xs x))
      (IsDistinct-cons e x xs (recursion_from_All (λ y. e x y ≡ false) xs (λ k d lt. other (get_or xs k d) (Contains-get_or xs k d lt))) d)

  -- an element that passes a test, or every element fails it
  pub seek : (p : X → Bool) (xs : List X) → ((x : X) × Contains xs x × (p x ≡ true)) ⊎ ((x : X) → Contains xs x → p x ≡ false)
  seek p [] = inr (λ x has. absurd (contains_none x has))
  seek p (x ∷ xs) = elim (p x) as (λ b. p x ≡ b → ((y : X) × Contains (x ∷ xs) y × (p y ≡ true)) ⊎ ((y : X) → Contains (x ∷ xs) y → p y ≡ false)) [
    | true ↦ λ e. inl (x, contains_head x xs, e)
    | false ↦ λ e. elim (seek p xs) [
      | inl found ↦ inl (found.0, contains_later x found.0 xs found.1, found.2)
      | inr none ↦ inr (λ y has. elim (contains_cases x y xs has) [ inl is ↦ subst (λ z. p z ≡ false) (sym is) e | inr h ↦ none y h ])
    ]
  ] refl

  -- each element passes a test where no first one fails it
  passes : (q : X → Bool) (xs : List X) → length xs ≤ prefix_len q xs → (x : X) → Contains xs x → q x ≡ true
  passes q [] le x has = absurd (contains_none x has)
  passes q (y ∷ ys) le x has = elim (q y) as (λ b. q y ≡ b → suc (length ys) ≤ cond b (1 + prefix_len q ys) 0 → q x ≡ true) [
    | true ↦ λ e more. elim (contains_cases y x ys has) [ inl is ↦ ap q is ∙ e | inr h ↦ passes q ys (omega arith) x h ]
    | false ↦ λ e none. absurd (omega (arith, none))
  ] refl le

-- `None` is not `Some`
pub none_is_some : {X : Type 0} (o : Option X) → o ≡ None → IsSome o → ⊥
none_is_some None e s = cc
none_is_some (Some x) e s = cc
