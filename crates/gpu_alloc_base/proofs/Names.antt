-- A finite map by name, as an `IndexMap` keeps it.
use Rattle.std.proofs.Common.{◌≡◌, ◌≢◌, ◌⊎◌, inl, inr, ℕ, ◌+◌, ◌-◌, ◌<◌, Bool, true, false, cond, ◌==◌, List, [], ◌∷◌, ◌++◌, length, Option, Some, None, refl, sym, ◌∙◌, ap, subst, arith, nat_eq}
use Rattle.std.proofs.lemmas.Bool.Decides.{nat_tests}
use Rattle.std.specs.Ordering.{nat_cmp, eq_by_cmp}
use Rattle.std.specs.Cmp.{nat_cmp_total}
use Rattle.std.specs.Map.{lookup}
use Rattle.std.specs.Option.{IfSome, IsSome, is_some}
use Rattle.std.specs.FinMap as finite
use Rattle.std.specs.FinMap.{nat_cmp-IsAntisymmetric}

name_test : (q name : ℕ) → eq_by_cmp nat_cmp q name ≡ (q == name)
name_test q name = grind (arith, nat_tests)

same_name : (a b : ℕ) → a ≡ b → (a == b) ≡ true
same_name a b e = grind (arith, nat_tests)

other_name : (a b : ℕ) → a ≢ b → (a == b) ≡ false
other_name a b ne = grind (arith, nat_tests)

-- two names are one or two
pub one_or_two : (a b : ℕ) → (a ≡ b) ⊎ (a ≢ b)
one_or_two a b = elim (a == b) as (λ t. (a == b) ≡ t → (a ≡ b) ⊎ (a ≢ b)) [ true ↦ λ e. inl (one e) | false ↦ λ e. inr (two e) ] refl
  where
    one : (a == b) ≡ true → a ≡ b
    one e = grind (arith, nat_tests)

    two : (a == b) ≡ false → a ≢ b
    two e = grind (arith, nat_tests)

module _ {X : Type 0} where
  -- what holds of a value that may be there, of the value that is
  pub here : (o : Option X) (P : X → Type 0) → IfSome o P → (x : X) → o ≡ Some x → P x
  here None P h x e = absurd (cc)
  here (Some y) P h x e = let same : y ≡ x = cc in subst P same h

  pub wherever : (o : Option X) (P : X → Type 0) → ((x : X) → o ≡ Some x → P x) → IfSome o P
  wherever None P h = tt
  wherever (Some y) P h = h y refl

  pub is_there : (o : Option X) → IsSome o → (x : X) × (o ≡ Some x)
  is_there None h = absurd (let n : false ≡ true = h in cc)
  is_there (Some x) h = (x, refl)

  pub absent_or_there : (o : Option X) → (o ≡ None) ⊎ ((x : X) × (o ≡ Some x))
  absent_or_there None = inl refl
  absent_or_there (Some x) = inr (x, refl)

  -- Look-ups.

  find_lookup : (q : ℕ) (es : List (ℕ × X)) → finite.find nat_cmp q es ≡ lookup (nat_eq q) es
  find_lookup q [] = refl
  find_lookup q (e ∷ es) = rw (name_test q e.0, find_lookup q es) refl

  -- the value by a name
  pub get_entries : (es : List (ℕ × X)) (name : ℕ) → finite.get (finite.from_entries {R = nat_cmp} es) name ≡ lookup (nat_eq name) es
  get_entries es name = finite.get-from_entries nat_cmp_total es name ∙ find_lookup name es

  -- an entry that goes last, of a name that was not there, is the one that is found
  pub lookup_last : (es : List (ℕ × X)) (name : ℕ) (x : X) → lookup (nat_eq name) es ≡ None → lookup (nat_eq name) (es ++ (name, x) ∷ []) ≡ Some x
  lookup_last [] name x none = rw (same_name name name refl) refl
  lookup_last (e ∷ es) name x none = by (nat_eq name e.0) (lookup_last es name x) none
    where
      by : (t : Bool) → (lookup (nat_eq name) es ≡ None → lookup (nat_eq name) (es ++ (name, x) ∷ []) ≡ Some x)
          → cond t (Some e.1) (lookup (nat_eq name) es) ≡ None → cond t (Some e.1) (lookup (nat_eq name) (es ++ (name, x) ∷ [])) ≡ Some x
      by true later h = absurd (cc)
      by false later h = later h

  -- the last entry is found, where its name does not stand before it
  pub get_last : (old new : List (ℕ × X)) (name : ℕ) (x : X) → old ≡ new ++ (name, x) ∷ [] → lookup (nat_eq name) new ≡ None → finite.get (finite.from_entries {R = nat_cmp} old) name ≡ Some x
  get_last old new name x is none = get_entries old name ∙ ap (lookup (nat_eq name)) is ∙ lookup_last new name x none

  -- Changes.

  pub put_by_name : (old new : List (ℕ × X)) (name : ℕ) (x : X) → ((q : ℕ) → lookup (nat_eq q) new ≡ cond (nat_eq name q) (Some x) (lookup (nat_eq q) old))
      → finite.from_entries {R = nat_cmp} new ≡ finite.insert (finite.from_entries old) name x
  put_by_name old new name x is = finite.same_map nat_cmp_total nat_cmp-IsAntisymmetric _ _ (λ q.
      get_entries new q ∙ is q ∙ sym (finite.get-insert nat_cmp_total (finite.from_entries {R = nat_cmp} old) name x q ∙ ap (λ t. cond t (Some x) (finite.get (finite.from_entries {R = nat_cmp} old) q)) (name_test q name ∙ flips q name) ∙ ap (cond (nat_eq name q) (Some x)) (get_entries old q)))
    where
      flips : (a b : ℕ) → (a == b) ≡ (b == a)
      flips a b = grind (arith, nat_tests)

  pub removed_by_name : (old new : List (ℕ × X)) (name : ℕ) → ((q : ℕ) → lookup (nat_eq q) new ≡ cond (nat_eq name q) None (lookup (nat_eq q) old))
      → finite.from_entries {R = nat_cmp} new ≡ finite.remove (finite.from_entries old) name
  removed_by_name old new name is = finite.same_map nat_cmp_total nat_cmp-IsAntisymmetric _ _ (λ q.
      get_entries new q ∙ is q ∙ sym (finite.get-remove nat_cmp_total (finite.from_entries {R = nat_cmp} old) name q ∙ ap (λ t. cond t None (finite.get (finite.from_entries {R = nat_cmp} old) q)) (name_test q name ∙ flips q name) ∙ ap (cond (nat_eq name q) None) (get_entries old q)))
    where
      flips : (a b : ℕ) → (a == b) ≡ (b == a)
      flips a b = grind (arith, nat_tests)

  -- What is found after a change.

  pub get_put : (m : finite.FinMap nat_cmp X) (name : ℕ) (x : X) → finite.get (finite.insert m name x) name ≡ Some x
  get_put m name x = rw (finite.get-insert nat_cmp_total m name x name, name_test name name, same_name name name refl) refl

  pub get_put-other : (m : finite.FinMap nat_cmp X) (name : ℕ) (x : X) (q : ℕ) → q ≢ name → finite.get (finite.insert m name x) q ≡ finite.get m q
  get_put-other m name x q ne = rw (finite.get-insert nat_cmp_total m name x q, name_test q name, other_name q name ne) refl

  pub get_removed : (m : finite.FinMap nat_cmp X) (name : ℕ) → finite.get (finite.remove m name) name ≡ None
  get_removed m name = rw (finite.get-remove nat_cmp_total m name name, name_test name name, same_name name name refl) refl

  pub get_removed-other : (m : finite.FinMap nat_cmp X) (name q : ℕ) → q ≢ name → finite.get (finite.remove m name) q ≡ finite.get m q
  get_removed-other m name q ne = rw (finite.get-remove nat_cmp_total m name q, name_test q name, other_name q name ne) refl

  -- where a value was put: this one, or one that was there under another name
  pub put-cases : (m : finite.FinMap nat_cmp X) (name : ℕ) (x : X) (q : ℕ) (y : X) → finite.get (finite.insert m name x) q ≡ Some y
      → ((q ≡ name) × (y ≡ x)) ⊎ ((q ≢ name) × (finite.get m q ≡ Some y))
  put-cases m name x q y is = elim (one_or_two q name) [
    | inl e ↦ let found = get_put m name x in let at = subst (λ n. finite.get (finite.insert m name x) n ≡ Some y) e is in inl (e, cc)
    | inr ne ↦ inr (ne, sym (get_put-other m name x q ne) ∙ is)
  ]

  -- where one was removed: one that was there under another name
  pub removed-cases : (m : finite.FinMap nat_cmp X) (name q : ℕ) (y : X) → finite.get (finite.remove m name) q ≡ Some y → (q ≢ name) × (finite.get m q ≡ Some y)
  removed-cases m name q y is = elim (one_or_two q name) [
    | inl e ↦ let none = get_removed m name in let at = subst (λ n. finite.get (finite.remove m name) n ≡ Some y) e is in absurd (cc)
    | inr ne ↦ (ne, sym (get_removed-other m name q ne) ∙ is)
  ]

  pub len_put : (m : finite.FinMap nat_cmp X) (name : ℕ) (x : X) → finite.get m name ≡ None → finite.len (finite.insert m name x) ≡ finite.len m + 1
  len_put m name x none = finite.len-insert nat_cmp_total m name x ∙ ap (λ o. cond (is_some o) (finite.len m) (finite.len m + 1)) none

  -- one was there, and is removed
  pub len_removed : (m : finite.FinMap nat_cmp X) (name : ℕ) (x : X) → finite.get m name ≡ Some x → finite.len (finite.remove m name) + 1 ≡ finite.len m
  len_removed m name x there = one_less (finite.len m) some (finite.len-remove nat_cmp_total m name ∙ ap (λ o. cond (is_some o) (finite.len m - 1) (finite.len m)) there)
    where
      some : finite.len m ≢ 0
      some none = let absent = ap (λ (n : finite.FinMap nat_cmp X). finite.get n name) (finite.empty_of_len m none) ∙ finite.get-empty nat_cmp name in cc

      one_less : {k : ℕ} (n : ℕ) → n ≢ 0 → k ≡ n - 1 → k + 1 ≡ n
      one_less n ne e = omega arith

-- where no item is there to be taken off the end, there is none
pub none_to_take : {X : Type 0} (old new : List X) → (0 < length old → ⊥) → old ≡ new ++ [] → (old ≡ []) × (new ≡ [])
none_to_take [] [] none is = (refl, refl)
none_to_take [] (x ∷ new) none is = absurd (cc)
none_to_take (x ∷ old) new none is = absurd (none (omega arith))
