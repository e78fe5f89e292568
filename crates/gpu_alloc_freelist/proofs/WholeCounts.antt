-- How many elements of a list pass a test, as some of it is replaced.
use Rattle.std.proofs.Common.{ℕ, zero, suc, ◌≡◌, ◌+◌, ◌-◌, ◌<◌, ◌≤◌, Bool, true, false, cond, List, [], ◌∷◌, ◌++◌, length, take, drop, set, get_or, refl, sym, ◌∙◌, ap, subst, arith}
use Rattle.std.specs.List.{count_by, remove}
use Rattle.std.proofs.lemmas.List.{set_split, length-take-le, get_or-take}
use Rattle.std.proofs.lemmas.List.Sums.{sum_by-append, sum_by-take-drop, count_by_more_no, count_by_more_yes}

module _ {X : Type 0} (p : X → Bool) where
  -- one element counts so much
  abbrev pub one : X → ℕ
  one x = cond (p x) 1 0

  pub count_both : (xs ys : List X) → count_by p (xs ++ ys) ≡ count_by p xs + count_by p ys
  count_both xs ys = sum_by-append one xs ys

  pub count_next : (x : X) (xs : List X) → count_by p (x ∷ xs) ≡ one x + count_by p xs
  count_next x xs =
      let alone : count_by p (x ∷ []) ≡ 0 + one x = refl in
      omega (arith, count_both (x ∷ []) xs, alone)

  count_at : (xs : List X) (i : ℕ) → count_by p (take i xs) + count_by p (drop i xs) ≡ count_by p xs
  count_at xs i = sum_by-take-drop one xs i

  -- one more of a list
  count_more : (xs : List X) (i : ℕ) (d : X) → i < length xs → count_by p (take (i + 1) xs) ≡ count_by p (take i xs) + one (get_or xs i d)
  count_more xs i d within = by_test (p (get_or xs i d)) refl
    where
      by_test : (b : Bool) → p (get_or xs i d) ≡ b → count_by p (take (i + 1) xs) ≡ count_by p (take i xs) + one (get_or xs i d)
      by_test true is = count_by_more_yes p xs i d within is ∙ ap (λ b. count_by p (take i xs) + cond b 1 0) (sym is)
      by_test false is = count_by_more_no p xs i d within is ∙ sym (ap (λ b. count_by p (take i xs) + cond b 1 0) is ∙ omega arith)

  -- those that pass the test stand all outside of a stretch
  count_stretch : (d : X) (xs : List X) (from n : ℕ) → from + n ≤ length xs → ((k : ℕ) → from ≤ k → k < from + n → p (get_or xs k d) ≡ false)
      → count_by p (take (from + n) xs) ≡ count_by p (take from xs)
  count_stretch d xs from zero within none = let same : from + 0 ≡ from = omega arith in ap (λ k. count_by p (take k xs)) same
  count_stretch d xs from (suc n) within none =
      let next : from + suc n ≡ from + n + 1 = omega arith in
      ap (λ k. count_by p (take k xs)) next
      ∙ count_by_more_no p xs (from + n) d (omega (arith, within)) (none (from + n) (omega arith) (omega arith))
      ∙ count_stretch d xs from n (omega (arith, within)) (λ k low high. none k low (omega (arith, high)))

  module _ (xs : List X) (y : X) where
    -- an element stands in place of a stretch in which none passes the test
    pub count_spliced : (from to : ℕ) → from ≤ to → to ≤ length xs → ((k : ℕ) (d : X) → from ≤ k → k < to → p (get_or xs k d) ≡ false)
        → count_by p (take from xs ++ y ∷ drop to xs) ≡ count_by p xs + one y
    count_spliced from to low high none =
        let there : from + (to - from) ≡ to = omega (arith, low) in
        let front : count_by p (take to xs) ≡ count_by p (take from xs) =
        subst (λ n. count_by p (take n xs) ≡ count_by p (take from xs)) there
        (count_stretch y xs from (to - from) (omega (arith, low, high)) (λ k after before. none k y after (omega (arith, low, before)))) in
        omega (arith, count_both (take from xs) (y ∷ drop to xs), count_next y (drop to xs), count_at xs to, front)

    -- an element stands in place of one
    count_put : (i : ℕ) (d : X) → i < length xs → count_by p (take i xs ++ y ∷ drop (i + 1) xs) + one (get_or xs i d) ≡ count_by p xs + one y
    count_put i d within =
        omega (arith, count_both (take i xs) (y ∷ drop (i + 1) xs), count_next y (drop (i + 1) xs), count_at xs (i + 1), count_more xs i d within)

    pub count_set : (i : ℕ) (d : X) → i < length xs → count_by p (set xs i y) + one (get_or xs i d) ≡ count_by p xs + one y
    count_set i d within =
        let next : suc i ≡ i + 1 = omega arith in
        ap (λ zs. count_by p zs + one (get_or xs i d)) (set_split xs i y within ∙ ap (λ n. take i xs ++ y ∷ drop n xs) next) ∙ count_put i d within

  -- one element less
  pub count_removed : (xs : List X) (i : ℕ) (d : X) → i < length xs → count_by p (remove xs i) + one (get_or xs i d) ≡ count_by p xs
  count_removed xs i d within =
      let both : count_by p (remove xs i) ≡ count_by p (take i xs) + count_by p (drop (suc i) xs) = count_both (take i xs) (drop (suc i) xs) in
      let next : suc i ≡ i + 1 = omega arith in
      omega (arith, both, ap (λ n. count_by p (drop n xs)) next, count_at xs (i + 1), count_more xs i d within)

  -- one that passes is counted
  pub counts : (xs : List X) (i : ℕ) (d : X) → i < length xs → p (get_or xs i d) ≡ true → 0 < count_by p xs
  counts xs i d within is =
      let one_is : one (get_or xs i d) ≡ 1 = ap (λ b. cond b 1 0) is in
      omega (arith, count_at xs (i + 1), count_more xs i d within, one_is)

  -- two that pass at two places are counted twice
  pub counts_two : (xs : List X) (i j : ℕ) (d : X) → i < j → j < length xs → p (get_or xs i d) ≡ true → p (get_or xs j d) ≡ true → 1 < count_by p xs
  counts_two xs i j d before within is_i is_j =
      let one_i : one (get_or xs i d) ≡ 1 = ap (λ b. cond b 1 0) is_i in
      let one_j : one (get_or xs j d) ≡ 1 = ap (λ b. cond b 1 0) is_j in
      let up_to : count_by p (take j xs) ≡ count_by p (take (i + 1) (take j xs)) + count_by p (drop (i + 1) (take j xs)) = sym (count_at (take j xs) (i + 1)) in
      let first : count_by p (take (i + 1) (take j xs)) ≡ count_by p (take i (take j xs)) + one (get_or (take j xs) i d) = count_more (take j xs) i d (omega (arith, before, length-take-le j xs (omega (arith, within)))) in
      let same : one (get_or (take j xs) i d) ≡ one (get_or xs i d) = ap one (get_or-take j xs i d before) in
      omega (arith, count_at xs (j + 1), count_more xs j d within, one_i, one_j, up_to, first, same)

-- all pass a test that each passes
pub count_all : {X : Type 0} (xs : List X) → count_by (λ _. true) xs ≡ length xs
count_all [] = refl
count_all (x ∷ xs) = omega (arith, count_next (λ _. true) x xs, count_all xs)
