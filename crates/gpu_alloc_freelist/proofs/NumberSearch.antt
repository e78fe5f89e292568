-- Rows with rising numbers that are searched for one: the row that has it is what the finite map has.
use Rattle.std.proofs.Common.{◌≡◌, inl, inr, ℕ, zero, suc, ◌<◌, ◌≤◌, List, [], ◌∷◌, length, get_or, IfSome, IsSome, slice_get, sym, ◌∙◌, ap, subst, arith}
use borrow.Author.Tests.{tests}
use Rattle.std.proofs.lemmas.Bool.{cases_lt}
use Rattle.std.proofs.lemmas.Map.Lookups.{exact_unsigned}
use Rattle.std.proofs.lemmas.Option.{slice_get-get_or}
use Rattle.std.specs.Cmp.{nat_cmp_is}
use Rattle.std.specs.FinMap as map
use Rattle.std.specs.List.{HoldsAt}
use Rattle.std.specs.List.Sorted.{IsNonDecreasingBy, IsPartitionPoint}
use Rattle.std.specs.Ordering.{nat_cmp, ordering_index}
use Rattle.std.specs.declared.cmp.Ordering.TheVariants.{Less, Equal, Greater}
use Rattle.gpu_alloc_base.proofs.ListedRanges.{some_value}
use Rattle.gpu_alloc_freelist.specs.Chunks.{by_number, AreNumbered}
use Rattle.gpu_alloc_freelist.proofs.NumberedRows.{numbered_place}

-- what holds at a place holds of what stands there
pub holds_there : {X : Type 0} (P : X → Type 0) (xs : List X) (i : ℕ) → i < length xs → HoldsAt P xs i → IfSome (slice_get xs i) P
holds_there P [] i lt at = absurd (omega arith)
holds_there P (x ∷ xs) zero lt at = at x
holds_there P (x ∷ xs) (suc i) lt at = holds_there P xs i (omega arith) at

-- and back
pub there_holds : {X : Type 0} (P : X → Type 0) (xs : List X) (i : ℕ) (d : X) → i < length xs → IfSome (slice_get xs i) P → P (get_or xs i d)
there_holds P xs i d lt at = subst (λ o. IfSome o P) (slice_get-get_or xs i d lt) at

-- the same of what was read there
pub said_at : {X : Type 0} (P : X → Type 0) (xs : List X) (i : ℕ) (x : X) → i < length xs → x ≡ get_or xs i x → IfSome (slice_get xs i) P → P x
said_at P xs i x lt is said = subst P (sym is) (there_holds P xs i x lt said)

higher : (a b k : ℕ) → a ≤ b → ordering_index (nat_cmp a k) ≤ ordering_index (nat_cmp b k)
higher a b k le = grind (arith, tests)

module _ {T X : Type 0} (number : T → ℕ) (value : T → X) (rows : List T) (rise : AreNumbered number rows) (k : ℕ) where
  -- what a comparison with a number answers rises
  rises_by : IsNonDecreasingBy (λ row. ordering_index (nat_cmp (number row) k)) rows
  rises_by i j d le lt = higher (number (get_or rows i d)) (number (get_or rows j d)) k (elim (cases_lt i j) [
    | inl less ↦ let before = rise i j d less lt in omega arith
    | inr ge ↦ let one : i ≡ j = omega arith in let same = ap (λ n. number (get_or rows n d)) one in omega arith
  ])

  -- a number that is found under has a row that compares equal
  pub no_number : (i : ℕ) → (IsNonDecreasingBy (λ row. ordering_index (nat_cmp (number row) k)) rows → IsPartitionPoint (λ row. nat_cmp (number row) k ≡ Less) (λ row. nat_cmp (number row) k ≡ Greater) rows i)
      → IsSome (map.get (by_number number value rows) k) → ⊥
  no_number i parted found =
      let is = some_value _ found in
      let place = numbered_place number value rows k is.0 rise is.1 in
      let row = place.0 in
      let j = place.1.0 in
      let point = parted rises_by in
      let same : number (get_or rows j row) ≡ k = ap number place.1.2 ∙ place.2.0 in
      let equal : nat_cmp (number (get_or rows j row)) k ≡ Equal = sym (nat_cmp_is (number (get_or rows j row)) k Equal same) in
      elim (cases_lt j i) [
        | inl lt ↦ let less = point.0 j row (omega arith) lt in absurd (let two : Less ≡ Equal = sym less ∙ equal in cc)
        | inr ge ↦ let greater = point.1 j row ge place.1.1 in absurd (let two : Greater ≡ Equal = sym greater ∙ equal in cc)
      ]

  -- the row that compares equal has the number, and says what the map has under it
  pub found_number : (i : ℕ) → i < length rows → HoldsAt (λ row. nat_cmp (number row) k ≡ Equal) rows i → IfSome (slice_get rows i) (λ row. number row ≡ k)
  found_number i lt equal = holds_there (λ row. number row ≡ k) rows i lt (λ d. exact_unsigned (number (get_or rows i d)) k (equal d))
