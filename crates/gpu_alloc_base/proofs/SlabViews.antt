-- A slab of rows seen as a finite map or set: what is found in it, and what an insertion or a removal makes of it.
use Rattle.std.proofs.Common.{◌≡◌, ◌≢◌, inl, inr, ℕ, ◌+◌, ◌≤◌, Bool, true, false, cond, List, [], ◌∷◌, Option, Some, None, option_map, refl, sym, ◌∙◌, ap, arith}
use Rattle.std.specs.Bool.{Decides}
use Rattle.std.specs.List.{Contains}
use Rattle.std.specs.declared.cmp.Ordering.{Ordering}
use Rattle.std.specs.Ordering.{nat_cmp, eq_by_cmp}
use Rattle.std.specs.Cmp.{IsTotalOrder, nat_cmp_total}
use Rattle.std.specs.FinMap as finite
use Rattle.std.specs.FinMap.{IsAntisymmetric, nat_cmp-IsAntisymmetric}
use Rattle.std.specs.FinSet as set
use Rattle.slab.specs.Slab.{Slab, get, entries, entries_from, Updates}
use Rattle.slab.proofs.SlabLemmas.{Contains-entries}
use Rattle.gpu_alloc_base.specs.SlabViews.{map_by, set_by, by_key, HasOneKeyEach}
use Rattle.gpu_alloc_base.proofs.Lists.{contains_cases, contains_none, contains_head, contains_later}
use Rattle.gpu_alloc_base.proofs.ListViews.{IsMore, IsLess, IsOneToOne, AreNamedApart, named_there, named_absent, named_more, named_less, in_names, names_more, names_less, same_or_other}
use Rattle.gpu_alloc_base.proofs.ListSets.{key_test}

one_value : {X : Type 0} (a b : X) → Some a ≡ Some b → a ≡ b
one_value a b e = cc

module _ {T : Type 0} where
  -- a row goes under a key that was vacant
  pub record IsInserted (old new : Slab T) (key : ℕ) (row : T) : Type 0 where
    pub was_vacant : get old key ≡ None
    pub updates : Updates old new key (Some row)

  -- a row is removed from under its key
  pub record IsRemoved (old new : Slab T) (key : ℕ) (row : T) : Type 0 where
    pub was : get old key ≡ Some row
    pub updates : Updates old new key None

  entries_more : (old new : Slab T) (key : ℕ) (row : T) → IsInserted old new key row → IsMore (entries old) (entries new) (key, row)
  entries_more old new key row h = record {
    has = (Contains-entries new key row).1 h.updates.changed;
    kept = λ e was.
        let at = (Contains-entries old e.0 e.1).0 was in
        let other : e.0 ≢ key = λ same. let vacant = ap (get old) same ∙ h.was_vacant in absurd (cc) in
        (Contains-entries new e.0 e.1).1 (h.updates.others e.0 other ∙ at);
    cases = λ e now.
        let at = (Contains-entries new e.0 e.1).0 now in
        elim (same_or_other nat_cmp_total nat_cmp-IsAntisymmetric e.0 key) [
          | inl same ↦ inl (let value : e.1 ≡ row = one_value e.1 row (sym at ∙ ap (get new) same ∙ h.updates.changed) in λ k. (same k, value k))
          | inr other ↦ inr ((Contains-entries old e.0 e.1).1 (sym (h.updates.others e.0 other) ∙ at))
        ];
  }

  entries_less : (old new : Slab T) (key : ℕ) (row : T) → IsRemoved old new key row → IsLess (entries old) (entries new) (key, row)
  entries_less old new key row h = record {
    had = (Contains-entries old key row).1 h.was;
    kept = λ e now.
        let at = (Contains-entries new e.0 e.1).0 now in
        let other : e.0 ≢ key = λ same. let gone = sym at ∙ ap (get new) same ∙ h.updates.changed in absurd (cc) in
        (λ same. other (ap (λ x. x.0) same), (Contains-entries old e.0 e.1).1 (sym (h.updates.others e.0 other) ∙ at));
    cases = λ e was.
        let at = (Contains-entries old e.0 e.1).0 was in
        elim (same_or_other nat_cmp_total nat_cmp-IsAntisymmetric e.0 key) [
          | inl same ↦ inl (let value : e.1 ≡ row = one_value e.1 row (sym at ∙ ap (get old) same ∙ h.was) in λ k. (same k, value k))
          | inr other ↦ inr ((Contains-entries new e.0 e.1).1 (h.updates.others e.0 other ∙ at))
        ];
  }

  keys_once : (s : Slab T) → IsOneToOne (λ (e : ℕ × T). e.0) (entries s)
  keys_once s a b has_a has_b same =
      let value : a.1 ≡ b.1 = one_value a.1 b.1 (sym ((Contains-entries s a.0 a.1).0 has_a) ∙ ap (get s) same ∙ (Contains-entries s b.0 b.1).0 has_b) in
      λ k. (same k, value k)

  -- later entries have greater keys
  past : (first : ℕ) (slots : List (Option T)) (e : ℕ × T) → Contains (entries_from first slots) e → first ≤ e.0
  past first [] e has = absurd (contains_none e has)
  past first (None ∷ rest) e has = let later = past (first + 1) rest e has in omega arith
  past first (Some row ∷ rest) e has = elim (contains_cases (first, row) e (entries_from (first + 1) rest) has) [
    | inl is ↦ let here : e.0 ≡ first = ap (λ (x : ℕ × T). x.0) is in omega arith
    | inr h ↦ let later = past (first + 1) rest e h in omega arith
  ]

  -- no entry comes twice
  apart : {K : Type 0} (name : ℕ × T → K) (first : ℕ) (slots : List (Option T)) → IsOneToOne name (entries_from first slots) → AreNamedApart name (entries_from first slots)
  apart name first [] one = tt
  apart name first (None ∷ rest) one = apart name (first + 1) rest one
  apart name first (Some row ∷ rest) one =
      let es = entries_from (first + 1) rest in (
        λ a has same.
            let here : a.0 ≡ first = ap (λ (x : ℕ × T). x.0) (one a (first, row) (contains_later (first, row) a es has) (contains_head (first, row) es) same) in
            let later = past (first + 1) rest a has in
            omega arith,
        apart name (first + 1) rest (λ a b has_a has_b. one a b (contains_later (first, row) a es has_a) (contains_later (first, row) b es has_b)),
      )

  pub keys_apart : (s : Slab T) → AreNamedApart (λ (e : ℕ × T). e.0) (entries s)
  keys_apart s = apart (λ e. e.0) 0 s.slots (keys_once s)

  -- By what a row is called.

  module _ {K : Type 0} (name : T → K) where
    -- an insertion and a removal keep one key for each name
    pub once_inserted : (old new : Slab T) (key : ℕ) (row : T) → HasOneKeyEach name old → ((i : ℕ) (a : T) → get old i ≡ Some a → name a ≢ name row) → IsInserted old new key row
        → HasOneKeyEach name new
    once_inserted old new key row once fresh h i k a b at_i at_k same =
        elim (same_or_other nat_cmp_total nat_cmp-IsAntisymmetric i key) [
          | inl i_is ↦
              let a_is : a ≡ row = one_value a row (sym at_i ∙ ap (get new) i_is ∙ h.updates.changed) in
              elim (same_or_other nat_cmp_total nat_cmp-IsAntisymmetric k key) [
                | inl k_is ↦ i_is ∙ sym k_is
                | inr k_other ↦ absurd (fresh k b (sym (h.updates.others k k_other) ∙ at_k) (sym same ∙ ap name a_is))
              ]
          | inr i_other ↦
              let was_i = sym (h.updates.others i i_other) ∙ at_i in
              elim (same_or_other nat_cmp_total nat_cmp-IsAntisymmetric k key) [
                | inl k_is ↦ absurd (fresh i a was_i (same ∙ ap name (one_value b row (sym at_k ∙ ap (get new) k_is ∙ h.updates.changed))))
                | inr k_other ↦ once i k a b was_i (sym (h.updates.others k k_other) ∙ at_k) same
              ]
        ]

    pub once_removed : (old new : Slab T) (key : ℕ) (row : T) → HasOneKeyEach name old → IsRemoved old new key row → HasOneKeyEach name new
    once_removed old new key row once h i k a b at_i at_k same = once i k a b (was i a at_i) (was k b at_k) same
      where
        was : (q : ℕ) (x : T) → get new q ≡ Some x → get old q ≡ Some x
        was q x at = elim (same_or_other nat_cmp_total nat_cmp-IsAntisymmetric q key) [
          | inl is ↦ let gone = sym at ∙ ap (get new) is ∙ h.updates.changed in absurd (cc)
          | inr other ↦ sym (h.updates.others q other) ∙ at
        ]

    once_entries : (s : Slab T) → HasOneKeyEach name s → IsOneToOne (λ (e : ℕ × T). name e.1) (entries s)
    once_entries s once a b has_a has_b same =
        let at_a = (Contains-entries s a.0 a.1).0 has_a in
        let at_b = (Contains-entries s b.0 b.1).0 has_b in
        let key : a.0 ≡ b.0 = once a.0 b.0 a.1 b.1 at_a at_b same in
        let value : a.1 ≡ b.1 = one_value a.1 b.1 (sym at_a ∙ ap (get s) key ∙ at_b) in
        λ k. (key k, value k)

  module _ {K : Type 0} {R : K → K → Ordering} (total : IsTotalOrder R) (exact : IsAntisymmetric R) (name : T → K) where
    -- something is in the set where a row is called so
    pub in_set : (s : Slab T) (q : K) → Decides (set.contains (set_by {R = R} name s) q) ((key : ℕ) × (row : T) × (get s key ≡ Some row) × (name row ≡ q))
    in_set s q =
        let d = in_names total exact (λ (e : ℕ × T). name e.1) (entries s) q in (
          λ t. let h = d.0 t in (h.0.0, h.0.1, (Contains-entries s h.0.0 h.0.1).0 h.1, h.2),
          λ h. d.1 ((h.0, h.1), (Contains-entries s h.0 h.1).1 h.2, h.3),
        )

    pub set_inserted : (old new : Slab T) (key : ℕ) (row : T) → IsInserted old new key row → set_by {R = R} name new ≡ set.insert (set_by name old) (name row)
    set_inserted old new key row h = names_more total exact (λ (e : ℕ × T). name e.1) (entries old) (entries new) (key, row) (entries_more old new key row h)

    pub set_removed : (old new : Slab T) (key : ℕ) (row : T) → HasOneKeyEach name old → IsRemoved old new key row → set_by {R = R} name new ≡ set.remove (set_by name old) (name row)
    set_removed old new key row once h = names_less total exact (λ (e : ℕ × T). name e.1) (entries old) (entries new) (key, row) (once_entries name old once) (entries_less old new key row h)

    module _ {X : Type 0} (value : T → X) where
      -- what the row of a name says
      pub map_there : (s : Slab T) (key : ℕ) (row : T) → HasOneKeyEach name s → get s key ≡ Some row → finite.get (map_by {R = R} name value s) (name row) ≡ Some (value row)
      map_there s key row once at = named_there total exact (λ (e : ℕ × T). name e.1) (λ e. value e.1) (entries s) (key, row) (once_entries name s once) ((Contains-entries s key row).1 at)

      pub map_absent : (s : Slab T) (q : K) → ((key : ℕ) (row : T) → get s key ≡ Some row → name row ≢ q) → finite.get (map_by {R = R} name value s) q ≡ None
      map_absent s q none = named_absent total exact (λ (e : ℕ × T). name e.1) (λ e. value e.1) (entries s) q (λ e has. none e.0 e.1 ((Contains-entries s e.0 e.1).0 has))

      pub map_inserted : (old new : Slab T) (key : ℕ) (row : T) → HasOneKeyEach name new → IsInserted old new key row
          → map_by {R = R} name value new ≡ finite.insert (map_by name value old) (name row) (value row)
      map_inserted old new key row once h =
          named_more total exact (λ (e : ℕ × T). name e.1) (λ e. value e.1) (entries old) (entries new) (key, row) (once_entries name new once) (entries_more old new key row h)

      pub map_removed : (old new : Slab T) (key : ℕ) (row : T) → HasOneKeyEach name old → IsRemoved old new key row
          → map_by {R = R} name value new ≡ finite.remove (map_by name value old) (name row)
      map_removed old new key row once h =
          named_less total exact (λ (e : ℕ × T). name e.1) (λ e. value e.1) (entries old) (entries new) (key, row) (once_entries name old once) (entries_less old new key row h)

  -- By key.

  module _ {X : Type 0} (value : T → X) where
    -- what a key's row says
    pub get_by_key : (s : Slab T) (key : ℕ) → finite.get (by_key value s) key ≡ option_map value (get s key)
    get_by_key s key = cases (get s key) refl
      where
        cases : (o : Option T) → get s key ≡ o → finite.get (by_key value s) key ≡ option_map value o
        cases None at = named_absent nat_cmp_total nat_cmp-IsAntisymmetric (λ (e : ℕ × T). e.0) (λ e. value e.1) (entries s) key
            (λ e has same. let there = ap (get s) (sym same) ∙ (Contains-entries s e.0 e.1).0 has in absurd (cc))
        cases (Some row) at = named_there nat_cmp_total nat_cmp-IsAntisymmetric (λ (e : ℕ × T). e.0) (λ e. value e.1) (entries s) (key, row) (keys_once s) ((Contains-entries s key row).1 at)

    -- what the map has under a key is said by the row there
    pub found_by_key : (s : Slab T) (key : ℕ) (x : X) → finite.get (by_key value s) key ≡ Some x → (row : T) × (get s key ≡ Some row) × (value row ≡ x)
    found_by_key s key x is = cases (get s key) refl (sym (get_by_key s key) ∙ is)
      where
        cases : (o : Option T) → get s key ≡ o → option_map value (get s key) ≡ Some x → (row : T) × (get s key ≡ Some row) × (value row ≡ x)
        cases None found h = absurd (let none : None ≡ Some x = rw found at h in cc)
        cases (Some row) found h = (row, found, (let some : Some (value row) ≡ Some x = rw found at h in cc))

    -- a row goes under a key, in the place of what stood there
    pub by_key_put : (old new : Slab T) (key : ℕ) (row : T) → Updates old new key (Some row) → by_key value new ≡ finite.insert (by_key value old) key (value row)
    by_key_put old new key row u = finite.same_map nat_cmp_total nat_cmp-IsAntisymmetric _ _ (λ q.
        get_by_key new q ∙ cases q (eq_by_cmp nat_cmp q key) refl ∙ sym (finite.get-insert nat_cmp_total (by_key value old) key (value row) q))
      where
        cases : (q : ℕ) (b : Bool) → eq_by_cmp nat_cmp q key ≡ b → option_map value (get new q) ≡ cond b (Some (value row)) (finite.get (by_key value old) q)
        cases q true e = ap (option_map value) (ap (get new) ((key_test nat_cmp nat_cmp_total nat_cmp-IsAntisymmetric q key).0 e) ∙ u.changed)
        cases q false e =
            let other : q ≢ key = λ same. let yes = (key_test nat_cmp nat_cmp_total nat_cmp-IsAntisymmetric q key).1 same in absurd (cc) in
            ap (option_map value) (u.others q other) ∙ sym (get_by_key old q)

    pub by_key_removed : (old new : Slab T) (key : ℕ) → Updates old new key None → by_key value new ≡ finite.remove (by_key value old) key
    by_key_removed old new key u = finite.same_map nat_cmp_total nat_cmp-IsAntisymmetric _ _ (λ q.
        get_by_key new q ∙ cases q (eq_by_cmp nat_cmp q key) refl ∙ sym (finite.get-remove nat_cmp_total (by_key value old) key q))
      where
        cases : (q : ℕ) (b : Bool) → eq_by_cmp nat_cmp q key ≡ b → option_map value (get new q) ≡ cond b None (finite.get (by_key value old) q)
        cases q true e = ap (option_map value) (ap (get new) ((key_test nat_cmp nat_cmp_total nat_cmp-IsAntisymmetric q key).0 e) ∙ u.changed)
        cases q false e =
            let other : q ≢ key = λ same. let yes = (key_test nat_cmp nat_cmp_total nat_cmp-IsAntisymmetric q key).1 same in absurd (cc) in
            ap (option_map value) (u.others q other) ∙ sym (get_by_key old q)
