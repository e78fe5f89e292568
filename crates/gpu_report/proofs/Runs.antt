-- What lies in one object, of a list that rises by object.
use Rattle.std.proofs.Common.{◌≡◌, inl, inr, ℕ, ◌+◌, ◌-◌, ◌<◌, ◌≤◌, true, false, ◌==◌, ltb, leb, List, ◌++◌, length, get_or, take, drop, All, sym, ◌∙◌, ap, subst, length-take, length-drop, arith}
use Rattle.std.proofs.lemmas.Bool.Decides.{nat_tests}
use Rattle.std.proofs.lemmas.List.{get_or-take, get_or-drop, append-nil, take-append-drop, take_all}
use Rattle.std.proofs.lemmas.List.Elements.{filter-append}
use Rattle.std.specs.List.{filter}
use Rattle.std.specs.List.Sorted.{IsNonDecreasingBy, IsPartitionPoint}
use Rattle.std.proofs.lemmas.List.Sorted.{IsNonDecreasingBy-drop}
use Rattle.std.proofs.lemmas.Bool.{cases_lt}
use Rattle.gpu_alloc_types.specs.declared.types.FreeRange.{FreeRange}
use Rattle.gpu_alloc.specs.RangeOrder.{AreInOrder}
use Rattle.gpu_report.proofs.Members.{filter_all, filter_none}

module _ {X : Type 0} (n : X → ℕ) (o : ℕ) (xs : List X) (low count : ℕ) (in_xs : low ≤ length xs) (in_rest : count ≤ length (drop low xs))
    (first : IsPartitionPoint (λ x. ltb (n x) o ≡ true) (λ x. ltb (n x) o ≡ false) xs low)
    (past : IsPartitionPoint (λ x. leb (n x) o ≡ true) (λ x. leb (n x) o ≡ false) (drop low xs) count) where
  below : All (λ x. (n x == o) ≡ false) (take low xs)
  below k d lt =
      let within : k < low = omega (arith, length-take low xs) in
      let less = first.0 k d (omega arith) within in
      rw (get_or-take low xs k d within) (grind (arith, nat_tests))

  at : All (λ x. (n x == o) ≡ true) (take count (drop low xs))
  at k d lt =
      let within : k < count = omega (arith, length-take count (drop low xs)) in
      let most = past.0 k d (omega arith) within in
      let least = first.1 (low + k) d (omega arith) (omega (arith, length-drop low xs)) in
      let same = get_or-drop low xs k d in
      rw (get_or-take count (drop low xs) k d within, same) (let most' = rw same at most in grind (arith, nat_tests))

  above : All (λ x. (n x == o) ≡ false) (drop count (drop low xs))
  above k d lt =
      let more = past.1 (count + k) d (omega arith) (omega (arith, length-drop count (drop low xs))) in
      rw (get_or-drop count (drop low xs) k d) (grind (arith, nat_tests))

  pub run_is : take count (drop low xs) ≡ filter (λ x. n x == o) xs
  run_is =
      let p = λ (x : X). n x == o in
      let rest = drop low xs in
      sym (append-nil (take count rest))
      ∙ (λ i. sym (filter_all p (take count rest) at) i ++ sym (filter_none p (drop count rest) above) i)
      ∙ sym (filter-append p (take count rest) (drop count rest)) ∙ ap (filter p) (take-append-drop count rest)
      ∙ ap (λ ys. ys ++ filter p rest) (sym (filter_none p (take low xs) below))
      ∙ sym (filter-append p (take low xs) rest) ∙ ap (filter p) (take-append-drop low xs)

-- The same of what a slice from there on is.
module _ {X : Type 0} (n : X → ℕ) (o : ℕ) (xs : List X) (low : ℕ) where
  abbrev pub rest_from : List X
  rest_from = take (length xs - low) (drop low xs)

  rest_is : drop low xs ≡ rest_from
  rest_is = sym (take_all (length xs - low) (drop low xs) (omega (arith, length-drop low xs)))

  pub rest_rises : IsNonDecreasingBy n xs → IsNonDecreasingBy n rest_from
  rest_rises up = subst (IsNonDecreasingBy n) rest_is (IsNonDecreasingBy-drop n low xs up)

  pub run_from : (count : ℕ) → low ≤ length xs → count ≤ length rest_from → IsPartitionPoint (λ x. ltb (n x) o ≡ true) (λ x. ltb (n x) o ≡ false) xs low
      → IsPartitionPoint (λ x. leb (n x) o ≡ true) (λ x. leb (n x) o ≡ false) rest_from count → take count rest_from ≡ filter (λ x. n x == o) xs
  run_from count le = subst
      (λ (rest : List X). count ≤ length rest → IsPartitionPoint (λ x. ltb (n x) o ≡ true) (λ x. ltb (n x) o ≡ false) xs low
      → IsPartitionPoint (λ x. leb (n x) o ≡ true) (λ x. leb (n x) o ≡ false) rest count → take count rest ≡ filter (λ x. n x == o) xs)
      rest_is (λ within first past. run_is n o xs low count le within first past)

-- ranges in order rise by object
pub ranges_rise : (ranges : List FreeRange) → AreInOrder ranges → IsNonDecreasingBy (λ r. r.object) ranges
ranges_rise ranges order i j d le lt = elim (cases_lt i j) [
  | inl before ↦ elim (order i j d before lt) [ inl less ↦ omega (arith, less) | inr same ↦ omega (arith, same.0) ]
  | inr ge ↦ let e : i ≡ j = omega arith in omega (arith, ap (λ k. (get_or ranges k d).object) e)
]
