-- The set of a list's elements, as one is added or taken off.
use Rattle.std.proofs.Common.{◌≡◌, ℕ, true, false, ◌⊎◌, inl, inr, List, refl, sym, ◌∙◌, ap, subst, Equal}
use Rattle.std.specs.declared.cmp.Ordering.{Ordering}
use Rattle.std.specs.Bool.{Decides}
use Rattle.std.specs.Cmp.{IsTotalOrder, Equal-is}
use Rattle.std.specs.Cmp.Lexicographic.{slice_cmp}
use Rattle.std.specs.FinMap.{nat_cmp-IsAntisymmetric, slice_cmp-IsAntisymmetric}
use Rattle.std.specs.FinSet as set
use Rattle.std.specs.List.{Contains}
use Rattle.std.specs.Ordering.{eq_by_cmp, nat_cmp}
use Rattle.std.proofs.lemmas.Bool.Decides.{Decides-and, Decides-not, Decides-or}
use Rattle.std.proofs.lemmas.Cmp.{eq_by_cmp_equiv}
use Rattle.std.proofs.lemmas.Map.Views.{Contains-from_any, list_any-from_Contains}
use mathlib.Core.Bool.{true≢false}

-- keys in the order of their numbers, from which they are read back, are told apart by that order
pub exact_by : {K : Type 0} (numbers : K → List ℕ) (read : List ℕ → K) → ((k : K) → read (numbers k) ≡ k) → (a b : K) → slice_cmp nat_cmp (numbers a) (numbers b) ≡ Equal → a ≡ b
exact_by numbers read back a b e = sym (back a) ∙ ap read (slice_cmp-IsAntisymmetric nat_cmp-IsAntisymmetric (numbers a) (numbers b) e) ∙ back b

module _ {K : Type 0} (R : K → K → Ordering) (total : IsTotalOrder R) (exact : (a b : K) → R a b ≡ Equal → a ≡ b) where
  pub key_test : (a b : K) → Decides (eq_by_cmp R a b) (a ≡ b)
  key_test a b = (λ h. exact a b ((Equal-is (R a b)).0 h), λ h. subst (λ y. eq_by_cmp R a y ≡ true) h ((eq_by_cmp_equiv total).refl a))

  -- a member of the set is an element of the list
  pub in_set : (ks : List K) (q : K) → Decides (set.contains (set.from_list {R = R} ks) q) (Contains ks q)
  in_set ks q =
      let e = set.contains-from_list total ks q in
      (λ t. Contains-from_any (λ x y h. (key_test x y).0 h) q ks (sym e ∙ t), λ h. e ∙ list_any-from_Contains (eq_by_cmp_equiv total) q ks h)

  pub in_inserted : (s : set.FinSet R) (k q : K) → Decides (set.contains (set.insert s k) q) ((q ≡ k) ⊎ (set.contains s q ≡ true))
  in_inserted s k q =
      let e = set.contains-insert total s k q in
      let d = Decides-or _ _ (key_test q k) ((λ t. t), λ t. t) in
      (λ t. d.0 (sym e ∙ t), λ h. e ∙ d.1 h)

  pub in_removed : (s : set.FinSet R) (k q : K) → Decides (set.contains (set.remove s k) q) ((q ≡ k → ⊥) × (set.contains s q ≡ true))
  in_removed s k q =
      let e = set.contains-remove total s k q in
      let d = Decides-and _ _ (Decides-not _ (key_test q k)) ((λ t. t), λ t. t) in
      (λ t. d.0 (sym e ∙ t), λ h. e ∙ d.1 h)

  -- what was a member is what was removed, or is a member still
  pub same_or_left : (s : set.FinSet R) (k q : K) → set.contains s q ≡ true → (q ≡ k) ⊎ (set.contains (set.remove s k) q ≡ true)
  same_or_left s k q has = elim (eq_by_cmp R q k) as (λ b. eq_by_cmp R q k ≡ b → (q ≡ k) ⊎ (set.contains (set.remove s k) q ≡ true)) [
    | true ↦ λ e. inl ((key_test q k).0 e)
    | false ↦ λ e. inr ((in_removed s k q).1 ((λ same. true≢false (sym ((key_test q k).1 same) ∙ e)), has))
  ] refl
