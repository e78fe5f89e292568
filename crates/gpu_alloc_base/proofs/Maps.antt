-- Finite maps, by number above all, as an entry is added or removed.
use Rattle.std.proofs.Common.{◌≡◌, ◌≢◌, ◌⊎◌, inl, inr, ℕ, Bool, true, false, ◌==◌, Option, Some, None, IsSome, refl, sym, ◌∙◌, ap, subst, arith}
use Rattle.std.specs.Bool.{Decides}
use Rattle.std.specs.declared.cmp.Ordering.{Ordering}
use Rattle.std.proofs.lemmas.Bool.{cases_eq}
use Rattle.std.proofs.lemmas.Bool.Decides.{nat_tests, Decides-eqb}
use Rattle.std.specs.Cmp.{IsTotalOrder, nat_cmp_total}
use Rattle.std.specs.Ordering.{nat_cmp, eq_by_cmp}
use Rattle.std.specs.FinMap as finite

pub name_test : (q name : ℕ) → eq_by_cmp nat_cmp q name ≡ (q == name)
name_test q name = grind (arith, nat_tests)

pub eq-true : (a b : ℕ) → a ≡ b → (a == b) ≡ true
eq-true a b e = grind (arith, nat_tests)

pub eq-false : (a b : ℕ) → a ≢ b → (a == b) ≡ false
eq-false a b ne = grind (arith, nat_tests)

-- What is found under a key, whatever the keys are, as a map has one more or one fewer.

name_decides : (a b : ℕ) → Decides (eq_by_cmp nat_cmp a b) (a ≡ b)
name_decides a b = subst (λ t. Decides t (a ≡ b)) (sym (name_test a b)) (Decides-eqb a b)

module _ {K : Type 0} (R : K → K → Ordering) (test : (a b : K) → Decides (eq_by_cmp R a b) (a ≡ b)) where
  same_key : (a : K) → eq_by_cmp R a a ≡ true
  same_key a = (test a a).1 refl

  pub other_key : (a b : K) → a ≢ b → eq_by_cmp R a b ≡ false
  other_key a b other = split (eq_by_cmp R a b) refl
    where
      split : (t : Bool) → eq_by_cmp R a b ≡ t → t ≡ false
      split true e = absurd (other ((test a b).0 e))
      split false e = refl

module _ {K X : Type 0} {R : K → K → Ordering} (o : IsTotalOrder R) (test : (a b : K) → Decides (eq_by_cmp R a b) (a ≡ b)) where
  -- one more
  pub get_put : (m : finite.FinMap R X) (k : K) (v : X) → finite.get (finite.insert m k v) k ≡ Some v
  get_put m k v = finite.get-insert o m k v k ∙ rw (same_key R test k) refl

  pub get_beside : (m : finite.FinMap R X) (k : K) (v : X) (q : K) → q ≢ k → finite.get (finite.insert m k v) q ≡ finite.get m q
  get_beside m k v q other = finite.get-insert o m k v q ∙ rw (other_key R test q k other) refl

  -- one fewer
  pub get_gone : (m : finite.FinMap R X) (k : K) → finite.get (finite.remove m k) k ≡ None
  get_gone m k = finite.get-remove o m k k ∙ rw (same_key R test k) refl

  pub get_left : (m : finite.FinMap R X) (k q : K) → q ≢ k → finite.get (finite.remove m k) q ≡ finite.get m q
  get_left m k q other = finite.get-remove o m k q ∙ rw (other_key R test q k other) refl

-- The same by number.

-- a look-up has one answer
pub one_value : {X : Type 0} (o : Option X) (a b : X) → o ≡ Some a → o ≡ Some b → a ≡ b
one_value o a b is also = cc

-- and a value where it finds something
pub found_value : {X : Type 0} (o : Option X) → IsSome o → (x : X) × (o ≡ Some x)
found_value None some = absurd (cc)
found_value (Some x) some = (x, refl)

-- what is there has another name than what is not
pub another_key : {X : Type 0} (m : finite.FinMap nat_cmp X) (k q : ℕ) (v : X) → finite.get m k ≡ None → finite.get m q ≡ Some v → q ≢ k
another_key m k q v none is same = let there : finite.get m k ≡ Some v = subst (λ n. finite.get m n ≡ Some v) same is in absurd (cc)

module _ {X : Type 0} where
  -- An entry comes.

  pub own_inserted : (m : finite.FinMap nat_cmp X) (k : ℕ) (v : X) → finite.get (finite.insert m k v) k ≡ Some v
  own_inserted m k v = get_put nat_cmp_total name_decides m k v

  pub other_inserted : (m : finite.FinMap nat_cmp X) (k : ℕ) (v : X) (q : ℕ) → q ≢ k → finite.get (finite.insert m k v) q ≡ finite.get m q
  other_inserted m k v q other = get_beside nat_cmp_total name_decides m k v q other

  -- what is held then came, or was held
  pub inserted_cases : (m : finite.FinMap nat_cmp X) (k : ℕ) (v : X) (q : ℕ) (x : X) → finite.get (finite.insert m k v) q ≡ Some x → ((q ≡ k) × (v ≡ x)) ⊎ (finite.get m q ≡ Some x)
  inserted_cases m k v q x is = elim (cases_eq q k) [
    | inl same ↦ inl (same, one_value _ v x (own_inserted m k v) (subst (λ n. finite.get (finite.insert m k v) n ≡ Some x) same is))
    | inr other ↦ inr (sym (other_inserted m k v q other) ∙ is)
  ]

  -- what was held is held still, where the name is new
  pub inserted_kept : (m : finite.FinMap nat_cmp X) (k : ℕ) (v : X) (q : ℕ) (x : X) → finite.get m k ≡ None → finite.get m q ≡ Some x → finite.get (finite.insert m k v) q ≡ Some x
  inserted_kept m k v q x none is = other_inserted m k v q (another_key m k q x none is) ∙ is

  -- An entry is removed.

  pub gone : (m : finite.FinMap nat_cmp X) (k : ℕ) → finite.get (finite.remove m k) k ≡ None
  gone m k = get_gone nat_cmp_total name_decides m k

  -- another name is held as before
  pub kept_other : (m : finite.FinMap nat_cmp X) (k q : ℕ) → q ≢ k → finite.get (finite.remove m k) q ≡ finite.get m q
  kept_other m k q other = get_left nat_cmp_total name_decides m k q other

  -- what is held once a name is removed has another one
  pub kept_key : (m : finite.FinMap nat_cmp X) (k q : ℕ) (v : X) → finite.get (finite.remove m k) q ≡ Some v → (q ≢ k) × (finite.get m q ≡ Some v)
  kept_key m k q v is =
      let other : q ≢ k = λ same. let none : finite.get (finite.remove m k) q ≡ None = ap (finite.get (finite.remove m k)) same ∙ gone m k in absurd (cc) in
      (other, sym (kept_other m k q other) ∙ is)
