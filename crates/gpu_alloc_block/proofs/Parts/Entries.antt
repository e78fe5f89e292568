-- What a finite map by number has among its entries, and a finite set among its items (from the earlier spike).
use Rattle.std.proofs.Common.{◌≡◌, inl, inr, ℕ, ◌<◌, Bool, true, false, ◌&&◌, List, [], ◌∷◌, Some, refl, sym, ◌∙◌, ap, subst, arith, Equal}
use Rattle.std.specs.Bool.{Decides}
use Rattle.std.specs.FinMap as finite
use Rattle.std.specs.FinMap.{nat_cmp-IsAntisymmetric}
use Rattle.std.specs.FinSet as set
use Rattle.std.specs.Cmp.{IsTotalOrder, nat_cmp_total}
use Rattle.std.specs.declared.cmp.Ordering.{Ordering}
use Rattle.std.specs.Ordering.{nat_cmp, eq_by_cmp, is_lt}
use Rattle.std.specs.Prelude.{T}
use Rattle.std.specs.List.{Contains}
use Rattle.std.proofs.lemmas.Cmp.{eq_by_cmp_equiv}
use Rattle.std.proofs.lemmas.Map.Views.{Contains-from_any, list_any-from_Contains}
use Rattle.std.proofs.lemmas.Bool.Decides.{nat_tests}
use Rattle.gpu_alloc_base.proofs.Lists.{contains_cases, contains_head, contains_later, contains_none}
use Rattle.gpu_alloc_base.proofs.ListSets.{key_test}
use Rattle.gpu_alloc_base.proofs.Maps.{name_test, eq-false}

pub first : (a b : Bool) → (a && b) ≡ true → a ≡ true
first true b p = refl
first false b p = absurd (cc)

pub second : (a b : Bool) → (a && b) ≡ true → b ≡ true
second true b p = p
second false b p = absurd (cc)

pub t_true : (b : Bool) → T b → b ≡ true
t_true true p = refl
t_true false p = absurd p

pub below_of : (a b : ℕ) → is_lt (nat_cmp a b) ≡ true → a < b
below_of a b e = grind (arith, nat_tests)

apart : (a b : ℕ) → b < a → eq_by_cmp nat_cmp a b ≡ false
apart a b lt = name_test a b ∙ eq-false a b (λ same. omega (arith, lt, same))

module _ {X : Type 0} where
  found_has : (es : List (ℕ × X)) (k : ℕ) (v : X) → finite.find nat_cmp k es ≡ Some v → Contains es (k, v)
  found_has [] k v is = absurd (cc)
  found_has (e ∷ es) k v is = elim (eq_by_cmp nat_cmp k e.0) as (λ b. eq_by_cmp nat_cmp k e.0 ≡ b → Contains (e ∷ es) (k, v)) [
    | true ↦ λ t.
        let name : k ≡ e.0 = (key_test nat_cmp nat_cmp_total nat_cmp-IsAntisymmetric k e.0).0 t in
        let value : Some e.1 ≡ Some v = rw t at is in
        let same : e.1 ≡ v = cc in
        subst (Contains (e ∷ es)) (λ i. (sym name i, same i)) (contains_head e es)
    | false ↦ λ f. contains_later e (k, v) es (found_has es k v (rw f at is))
  ] refl

  pub later_above : (es : List (ℕ × X)) (x k : ℕ) (v : X) → finite.Entries.below_all nat_cmp x es ≡ true → Contains es (k, v) → eq_by_cmp nat_cmp k x ≡ false
  later_above [] x k v below has = absurd (contains_none (k, v) has)
  later_above (e ∷ es) x k v below has = elim (contains_cases e (k, v) es has) [
    | inl is ↦ apart k x (omega (arith, below_of x e.0 (first _ _ below), ap (λ (p : ℕ × X). p.0) is))
    | inr later ↦ later_above es x k v (second _ _ below) later
  ]

  has_found : (es : List (ℕ × X)) (k : ℕ) (v : X) → finite.is_sorted nat_cmp es ≡ true → Contains es (k, v) → finite.find nat_cmp k es ≡ Some v
  has_found [] k v sorted has = absurd (contains_none (k, v) has)
  has_found (e ∷ es) k v sorted has = elim (contains_cases e (k, v) es has) [
    | inl is ↦ rw ((key_test nat_cmp nat_cmp_total nat_cmp-IsAntisymmetric k e.0).1 (ap (λ (p : ℕ × X). p.0) is)) (ap (λ (p : ℕ × X). Some p.1) (sym is))
    | inr later ↦ rw (later_above es e.0 k v (first _ _ sorted) later) (has_found es k v (second _ _ sorted) later)
  ]

  pub entry_there : (m : finite.FinMap nat_cmp X) (k : ℕ) (v : X) → finite.get m k ≡ Some v → Contains (finite.entries m) (k, v)
  entry_there m k v is = found_has (finite.entries m) k v (sym (finite.get-entries m k) ∙ is)

  pub there_entry : (m : finite.FinMap nat_cmp X) (k : ℕ) (v : X) → Contains (finite.entries m) (k, v) → finite.get m k ≡ Some v
  there_entry m k v has = finite.get-entries m k ∙ has_found (finite.entries m) k v (t_true _ (finite.entries_sorted m)) has

module _ {K : Type 0} {R : K → K → Ordering} (total : IsTotalOrder R) (exact : (a b : K) → R a b ≡ Equal → a ≡ b) where
  pub item_there : (s : set.FinSet R) (q : K) → Decides (set.contains s q) (Contains (set.items s) q)
  item_there s q =
      let e = set.contains-items s q in (
        (λ t. Contains-from_any (λ x y h. (key_test R total exact x y).0 h) q (set.items s) (sym e ∙ t)),
        (λ h. e ∙ list_any-from_Contains (eq_by_cmp_equiv total) q (set.items s) h),
      )
