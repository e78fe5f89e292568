-- Of a list, those that pass a test.
use Rattle.std.proofs.Common.{◌≡◌, inl, inr, ◌+◌, Bool, true, false, cond, List, [], ◌∷◌, length, count_by, refl, sym, ◌∙◌, ap, subst, arith}
use Rattle.std.specs.List.{AllByRecursion, Contains, IsDistinct}
use Rattle.std.proofs.lemmas.List.Sums.{sum_by-cons}
use Rattle.gpu_alloc_base.proofs.Lists.{contains_cases, contains_head, contains_later, contains_none}

module _ {X : Type 0} (t : X → Bool) where
  pick : Bool → X → List X → List X
  pick true x xs = x ∷ xs
  pick false x xs = xs

  pub only : List X → List X
  only [] = []
  only (x ∷ xs) = pick (t x) x (only xs)

  pub length_only : (xs : List X) → length (only xs) ≡ count_by t xs
  unfolding only pick
  length_only [] = refl
  length_only (x ∷ xs) = picked (t x) ∙ ap (λ n. cond (t x) 1 0 + n) (length_only xs) ∙ sym (sum_by-cons (λ y. cond (t y) 1 0) x xs)
    where
      picked : (b : Bool) → length (pick b x (only xs)) ≡ cond b 1 0 + length (only xs)
      picked true = omega arith
      picked false = omega arith

  pub in_only : (xs : List X) (q : X) → Contains (only xs) q → (t q ≡ true) × Contains xs q
  unfolding only pick
  in_only [] q has = absurd (contains_none q has)
  in_only (x ∷ xs) q has = picked (t x) refl has (in_only xs q)
    where
      picked : (b : Bool) → t x ≡ b → Contains (pick b x (only xs)) q → (Contains (only xs) q → (t q ≡ true) × Contains xs q) → (t q ≡ true) × Contains (x ∷ xs) q
      picked true is h below = elim (contains_cases x q (only xs) h) [
        | inl same ↦ (ap t same ∙ is, subst (Contains (x ∷ xs)) (sym same) (contains_head x xs))
        | inr later ↦ let w = below later in (w.0, contains_later x q xs w.1)
      ]
      picked false is h below = let w = below h in (w.0, contains_later x q xs w.1)

  all_only : (P : X → Type 0) (xs : List X) → AllByRecursion P xs → AllByRecursion P (only xs)
  unfolding only pick
  all_only P [] all = tt
  all_only P (x ∷ xs) all = picked (t x) (all_only P xs all.1)
    where
      picked : (b : Bool) → AllByRecursion P (only xs) → AllByRecursion P (pick b x (only xs))
      picked true rest = (all.0, rest)
      picked false rest = rest

  pub distinct_only : (e : X → X → Bool) (xs : List X) → IsDistinct e xs → IsDistinct e (only xs)
  unfolding only pick IsDistinct
  distinct_only e [] d = tt
  distinct_only e (x ∷ xs) d = picked (t x) (distinct_only e xs d.1)
    where
      picked : (b : Bool) → IsDistinct e (only xs) → IsDistinct e (pick b x (only xs))
      picked true rest = (all_only (λ y. e x y ≡ false) xs d.0, rest)
      picked false rest = rest
