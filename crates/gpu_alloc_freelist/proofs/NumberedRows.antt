-- Rows with rising numbers, as a finite map by number, as one is added or removed.
use Rattle.std.proofs.Common.{◌≡◌, ◌≢◌, inl, inr, ℕ, ◌+◌, ◌<◌, List, [], ◌∷◌, ◌++◌, length, get_or, Some, None, sym, ◌∙◌, ap, subst, arith}
use Rattle.std.proofs.lemmas.Bool.{cases_lt}
use Rattle.std.proofs.lemmas.List.{get_or_default}
use Rattle.std.proofs.lemmas.List.Edits.{length-remove, get_or-remove_below, get_or-remove_above}
use Rattle.std.proofs.lemmas.List.Elements.{Contains-get_or, Contains-append_left, Contains-push, Contains-push_cases}
use Rattle.std.proofs.lemmas.List.Quantifiers.{all_pairs_push, all_pairs_remove}
use Rattle.std.proofs.lemmas.List.Sorted.{IsPermutation-remove, IsPermutation-sym, Contains-permutation}
use Rattle.std.specs.Cmp.{nat_cmp_total}
use Rattle.std.specs.FinMap as map
use Rattle.std.specs.FinMap.{nat_cmp-IsAntisymmetric}
use Rattle.std.specs.List.{Contains, remove}
use Rattle.std.specs.List.Sorted.{IsPermutation}
use Rattle.gpu_alloc_base.proofs.ListViews.{IsMore, IsLess, IsOneToOne, named_there, named_absent, named_less, seek_name}
use Rattle.gpu_alloc_base.proofs.Lists.{contains_cases, contains_later}
use Rattle.gpu_alloc_freelist.specs.Chunks.{by_number, AreNumbered}

module _ {T X : Type 0} (number : T → ℕ) (value : T → X) where
  -- one number, one row
  pub one_row : (rows : List T) (a b : T) → AreNumbered number rows → Contains rows a → Contains rows b → number a ≡ number b → a ≡ b
  one_row rows a b rise has_a has_b same =
      let i = has_a.0 in
      let j = has_b.0 in
      let at_a : get_or rows i a ≡ a = has_a.2 in
      let at_b : get_or rows j a ≡ b = get_or_default rows j a b has_b.1 ∙ has_b.2 in
      elim (cases_lt i j) [
        | inl lt ↦ absurd (omega (arith, rise i j a lt has_b.1, same, ap number at_a, ap number at_b))
        | inr ge ↦ elim (cases_lt j i) [
          | inl lt ↦ absurd (omega (arith, rise j i a lt has_a.1, same, ap number at_a, ap number at_b))
          | inr le ↦ let one : i ≡ j = omega arith in sym at_a ∙ ap (λ k. get_or rows k a) one ∙ at_b
        ]
      ]

  once : (rows : List T) → AreNumbered number rows → IsOneToOne number rows
  once rows rise a b has_a has_b same = one_row rows a b rise has_a has_b same

  -- a row is found under its number
  pub row_found : (rows : List T) (row : T) → AreNumbered number rows → Contains rows row → map.get (by_number number value rows) (number row) ≡ Some (value row)
  row_found rows row rise has = named_there nat_cmp_total nat_cmp-IsAntisymmetric number value rows row (once rows rise) has

  -- what is found under a number stands somewhere
  pub numbered_place : (rows : List T) (k : ℕ) (v : X) → AreNumbered number rows → map.get (by_number number value rows) k ≡ Some v → (row : T) × Contains rows row × ((number row ≡ k) × (value row ≡ v))
  numbered_place rows k v rise is = elim (seek_name nat_cmp_total nat_cmp-IsAntisymmetric number value rows k) [
    | inl h ↦
        let there : map.get (by_number number value rows) k ≡ Some (value h.0) =
        subst (λ q. map.get (by_number number value rows) q ≡ Some (value h.0)) h.2 (named_there nat_cmp_total nat_cmp-IsAntisymmetric number value rows h.0 (once rows rise) h.1) in
        let same : value h.0 ≡ v = cc in
        (h.0, h.1, (h.2, same))
    | inr none ↦ let absent : map.get (by_number number value rows) k ≡ None = named_absent nat_cmp_total nat_cmp-IsAntisymmetric number value rows k none in absurd (cc)
  ]

  -- a row with a greater number comes
  pub numbered_push : (rows : List T) (x : T) → AreNumbered number rows → ((row : T) → Contains rows row → number row < number x) → AreNumbered number (rows ++ x ∷ [])
  numbered_push rows x rise greater = all_pairs_push (λ a b. number a < number b) rows x rise (λ k d lt. greater (get_or rows k d) (Contains-get_or rows k d lt))

  pub rows_more : (rows : List T) (x : T) → IsMore rows (rows ++ x ∷ []) x
  rows_more rows x = record {
    has = Contains-push rows x;
    kept = λ a has. Contains-append_left rows (x ∷ []) a has;
    cases = λ a has. elim (Contains-push_cases rows x a has) [ inl old ↦ inr old | inr new ↦ inl (sym new) ];
  }

  -- a row is removed
  pub numbered_remove : (rows : List T) (i : ℕ) → AreNumbered number rows → i < length rows → AreNumbered number (remove rows i)
  numbered_remove rows i rise lt = all_pairs_remove (λ a b. number a < number b) rows i lt rise

  -- the row that is removed has another number than each that stays
  other_number : (rows : List T) (i : ℕ) (d row : T) → AreNumbered number rows → i < length rows → Contains (remove rows i) row → number row ≢ number (get_or rows i d)
  other_number rows i d row rise lt (k, within, is) same =
      let size : length (remove rows i) + 1 ≡ length rows = length-remove rows i lt in
      let at_i : get_or rows i row ≡ get_or rows i d = get_or_default rows i row d lt in
      elim (cases_lt k i) [
        | inl below ↦ omega (arith, rise k i row below lt, ap number (get_or-remove_below rows i row k below lt), ap number is, ap number at_i, same)
        | inr above ↦ omega (arith, rise i (k + 1) row (omega arith) (omega arith), ap number (get_or-remove_above rows i row k above lt), ap number is, ap number at_i, same)
      ]

  pub rows_less : (rows : List T) (i : ℕ) (d : T) → AreNumbered number rows → i < length rows → IsLess rows (remove rows i) (get_or rows i d)
  rows_less rows i d rise lt =
      let x = get_or rows i d in
      let perm : IsPermutation rows (x ∷ remove rows i) = IsPermutation-remove rows i x lt (get_or_default rows i d x lt) in
      let back : IsPermutation (x ∷ remove rows i) rows = IsPermutation-sym rows (x ∷ remove rows i) perm in
      record {
        had = Contains-get_or rows i d lt;
        kept = λ a has. (
          λ same. other_number rows i d a rise lt has (ap number same),
          Contains-permutation (x ∷ remove rows i) rows a back (contains_later x a (remove rows i) has),
        );
        cases = λ a has. contains_cases x a (remove rows i) (Contains-permutation rows (x ∷ remove rows i) a perm has);
      }

  pub removed : (rows : List T) (i : ℕ) (d : T) → AreNumbered number rows → i < length rows → by_number number value (remove rows i) ≡ map.remove (by_number number value rows) (number (get_or rows i d))
  removed rows i d rise lt = named_less nat_cmp_total nat_cmp-IsAntisymmetric number value rows (remove rows i) (get_or rows i d) (once rows rise) (rows_less rows i d rise lt)
