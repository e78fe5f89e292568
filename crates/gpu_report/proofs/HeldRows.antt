-- The held objects that are held as one memory type and kind, row by row.
use Rattle.std.proofs.Common.{◌≡◌, ℕ, ◌+◌, ◌<◌, true, cond, List, [], ◌∷◌, ◌++◌, length, map, take, get_or, Option, Some, None, nat_eq, refl, sym, ◌∙◌, ap, subst, arith, ◌≤◌, inl, inr, Less, Equal, Greater}
use Rattle.std.proofs.lemmas.Bool.{cases_lt}
use Rattle.std.proofs.lemmas.List.{take_more, map-append, length-map, get_or-map}
use Rattle.std.proofs.lemmas.List.Elements.{Contains-get_or, filter-append}
use Rattle.std.proofs.lemmas.List.Sorted.{IsPermutation-map, IsPermutation-sym, Contains-permutation}
use Rattle.std.proofs.lemmas.Map.Made.{keys_of-map_values}
use Rattle.std.proofs.lemmas.Map.Keys.{IsDistinct-IsPermutation}
use Rattle.std.proofs.lemmas.Map.Views.{lookup-from_Contains, Contains-from_lookup}
use Rattle.std.proofs.lemmas.Cmp.{nat_eq_equiv}
use Rattle.std.proofs.lemmas.Bool.Decides.{nat_tests}
use Rattle.std.specs.List.{Contains, HoldsAt, IsDistinct}
use Rattle.std.specs.List.Sorted.{IsPermutation, IsNonDecreasing, IsNonDecreasingBy, IsPartitionPoint}
use Rattle.std.specs.Map.{keys_of, lookup}
use Rattle.std.specs.Ordering.{nat_cmp, ordering_index}
use Rattle.std.specs.declared.cmp.Ordering.{Ordering}
use Rattle.std.specs.Cmp.{nat_cmp_total, tied_itself}
use Rattle.std.specs.FinMap as finite
use Rattle.std.specs.FinMap.{nat_cmp-IsAntisymmetric}
use Rattle.gpu_alloc_block.specs.declared.block.Kind.TheVariants.{Dedicated}
use Rattle.gpu_alloc_base.proofs.ListViews.{contains_name}
use Rattle.gpu_alloc_base.proofs.Names.{get_entries}
use Rattle.gpu_alloc.specs.Spans.{held_entry_of, held_objects_in, held_of}
use Rattle.gpu_alloc.specs.State.{HeldObject, State}
use Rattle.gpu_alloc.specs.declared.spans.HeldRow.{HeldRow}
use Rattle.gpu_report.proofs.Members.{from_mapped}
use Rattle.gpu_report.specs.Held.{is_of, held_as, AreHeld}
use Rattle.gpu_report.specs.declared.part.Part.{Part}

-- one row more
pub held_more : (p : Part) (rows : List (ℕ × HeldRow)) (i : ℕ) (d : ℕ × HeldRow) → i < length rows
    → held_as (map held_entry_of (take (i + 1) rows)) p
    ≡ held_as (map held_entry_of (take i rows)) p ++ cond (is_of p (held_of (get_or rows i d).1)) (held_entry_of (get_or rows i d) ∷ []) []
held_more p rows i d lt =
    ap (λ (xs : List (ℕ × HeldRow)). held_as (map held_entry_of xs) p) (take_more rows i d lt)
    ∙ ap (λ (xs : List (ℕ × HeldObject)). held_as xs p) (map-append held_entry_of (take i rows) (get_or rows i d ∷ []))
    ∙ filter-append (λ e. is_of p e.1) (map held_entry_of (take i rows)) (held_entry_of (get_or rows i d) ∷ [])

-- What is found by name, whatever the order of the rows.

same_number : (x y : ℕ) → nat_eq x y ≡ true → x ≡ y
same_number x y e = grind (arith, nat_tests)

flips : (x y : ℕ) → nat_eq x y ≡ nat_eq y x
flips x y = grind (arith, nat_tests)

module _ {X : Type 0} (es fs : List (ℕ × X)) (perm : IsPermutation es fs) (once : IsDistinct nat_eq (keys_of es)) where
  pub still_once : IsDistinct nat_eq (keys_of fs)
  still_once = IsDistinct-IsPermutation nat_eq flips (keys_of es) (keys_of fs) (IsPermutation-map (λ e. e.0) es fs perm) once

  same_found : (q : ℕ) → lookup (nat_eq q) es ≡ lookup (nat_eq q) fs
  same_found q = cases (lookup (nat_eq q) es) refl
    where
      none : (o : Option X) → lookup (nat_eq q) es ≡ None → lookup (nat_eq q) fs ≡ o → None ≡ o
      none None gone is = refl
      none (Some v) gone is =
          let has = Contains-permutation fs es (q, v) (IsPermutation-sym es fs perm) (Contains-from_lookup same_number q v fs is) in
          let there = lookup-from_Contains nat_eq_equiv q v es once has in
          absurd (cc)

      cases : (o : Option X) → lookup (nat_eq q) es ≡ o → o ≡ lookup (nat_eq q) fs
      cases None is = none (lookup (nat_eq q) fs) is refl
      cases (Some v) is = sym (lookup-from_Contains nat_eq_equiv q v fs still_once (Contains-permutation es fs (q, v) perm (Contains-from_lookup same_number q v es is)))

  same_map : finite.from_entries {R = nat_cmp} es ≡ finite.from_entries fs
  same_map = finite.same_map nat_cmp_total nat_cmp-IsAntisymmetric _ _ (λ q. get_entries es q ∙ same_found q ∙ sym (get_entries fs q))

-- the rows of the held objects, sorted by name
pub held_sorted : (s : State) (old new : List (ℕ × HeldRow)) → held_objects_in old ≡ s.held → IsDistinct nat_eq (keys_of old) → IsPermutation old new → IsNonDecreasingBy (λ e. e.0) new → AreHeld s (map held_entry_of new)
held_sorted s old new exact once perm sorted =
    let both = IsPermutation-map held_entry_of old new perm in
    let apart = subst (IsDistinct nat_eq) (sym (keys_of-map_values held_of old)) once in
    record {
      exact = sym (same_map (map held_entry_of old) (map held_entry_of new) both apart) ∙ exact;
      once = still_once (map held_entry_of old) (map held_entry_of new) both apart;
      rising = subst IsNonDecreasing (sym (keys_of-map_values held_of new)) (rises new sorted);
    }
  where
    rises : (es : List (ℕ × HeldRow)) → IsNonDecreasingBy (λ e. e.0) es → IsNonDecreasing (keys_of es)
    rises es up i j d le lt =
        let nothing : ℕ × HeldRow = (0, record { memory_type = 0; counted = 0; kind = Dedicated }) in
        let in_j : j < length es = omega (arith, length-map es (λ (e : ℕ × HeldRow). e.0)) in
        let in_i : i < length es = omega arith in
        let at_i = get_or-map (λ (e : ℕ × HeldRow). e.0) es i nothing d in_i in
        let at_j = get_or-map (λ (e : ℕ × HeldRow). e.0) es j nothing d in_j in
        let h = up i j nothing le in_j in
        omega (arith, at_i, at_j, h)

-- an entry's object is held
pub held_entry : (s : State) (held : List (ℕ × HeldObject)) (e : ℕ × HeldObject) → AreHeld s held → Contains held e → finite.get s.held e.0 ≡ Some e.1
held_entry s held e are has =
    ap (λ (m : finite.FinMap nat_cmp HeldObject). finite.get m e.0) (sym are.exact) ∙ get_entries held e.0
    ∙ lookup-from_Contains nat_eq_equiv e.0 e.1 held are.once has

-- and a held object is an entry
pub entry_held : (s : State) (held : List (ℕ × HeldObject)) (object : ℕ) (h : HeldObject) → AreHeld s held → finite.get s.held object ≡ Some h → Contains held (object, h)
entry_held s held object h are is =
    Contains-from_lookup same_number object h held
    (sym (get_entries held object) ∙ ap (λ (m : finite.FinMap nat_cmp HeldObject). finite.get m object) are.exact ∙ is)

-- A row by its name, among rows that are sorted by their names.

module _ (rows : List (ℕ × HeldRow)) (object : ℕ) where
  abbrev pub beside : ℕ × HeldRow → Ordering
  beside e = nat_cmp e.0 object

  pub found_row : (i : ℕ) (d : ℕ × HeldRow) → IsDistinct nat_eq (keys_of (map held_entry_of rows)) → i < length rows → HoldsAt (λ e. beside e ≡ Equal) rows i
      → Some (held_of (get_or rows i d).1) ≡ lookup (nat_eq object) (map held_entry_of rows)
  found_row i d once lt at =
      let e = get_or rows i d in
      let name : e.0 ≡ object = nat_cmp-IsAntisymmetric e.0 object (at d) in
      let has = contains_name held_entry_of rows e (Contains-get_or rows i d lt) in
      sym (ap (λ n. lookup (nat_eq n) (map held_entry_of rows)) (sym name) ∙ lookup-from_Contains nat_eq_equiv e.0 (held_of e.1) (map held_entry_of rows) once has)

  rises : IsNonDecreasing (keys_of (map held_entry_of rows)) → IsNonDecreasingBy (λ e. ordering_index (beside e)) rows
  rises up i j d le lt =
      let keys : keys_of (map held_entry_of rows) ≡ map (λ e. e.0) rows = keys_of-map_values held_of rows in
      let at_i = get_or-map (λ (e : ℕ × HeldRow). e.0) rows i d 0 (omega (arith, le, lt)) in
      let at_j = get_or-map (λ (e : ℕ × HeldRow). e.0) rows j d 0 lt in
      let h = subst IsNonDecreasing keys up i j 0 le (omega (arith, lt, length-map rows (λ (e : ℕ × HeldRow). e.0))) in
      later (get_or rows i d).0 (get_or rows j d).0 (omega (arith, at_i, at_j, h))
    where
      later : (a b : ℕ) → a ≤ b → ordering_index (nat_cmp a object) ≤ ordering_index (nat_cmp b object)
      later a b at_most = grind (arith, nat_tests, at_most)

  pub missed_row : (i : ℕ) → IsNonDecreasing (keys_of (map held_entry_of rows)) → (IsNonDecreasingBy (λ e. ordering_index (beside e)) rows → IsPartitionPoint (λ e. beside e ≡ Less) (λ e. beside e ≡ Greater) rows i)
      → None ≡ lookup (nat_eq object) (map held_entry_of rows)
  missed_row i up clause = sym (none (lookup (nat_eq object) (map held_entry_of rows)) refl)
    where
      none : (o : Option HeldObject) → lookup (nat_eq object) (map held_entry_of rows) ≡ o → lookup (nat_eq object) (map held_entry_of rows) ≡ None
      none None is = is
      none (Some h) is =
          let e = from_mapped held_entry_of rows (object, h) (Contains-from_lookup same_number object h (map held_entry_of rows) is) in
          let k : ℕ = e.1.0 in
          let at : get_or rows k e.0 ≡ e.0 = e.1.2 in
          let equal : beside (get_or rows k e.0) ≡ Equal = ap (λ (x : ℕ × HeldRow). beside x) at ∙ ap (λ (x : ℕ × HeldObject). nat_cmp x.0 object) e.2 ∙ tied_itself nat_cmp_total object in
          let point = clause (rises up) in
          elim (cases_lt k i) [
            | inl low ↦ let less = point.0 k e.0 (omega arith) low in absurd (cc)
            | inr high ↦ let greater = point.1 k e.0 high e.1.1 in absurd (cc)
          ]
