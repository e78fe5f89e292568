-- What is found under a key, and what a change of one place makes of it.
use Rattle.std.proofs.Common.{◌≡◌, ◌≢◌, ◌⊎◌, inl, inr, ℕ, zero, suc, ◌+◌, ◌*◌, ◌/◌, ◌%◌, ◌^◌, ◌<◌, ◌≤◌, Bool, true, false, cond, ◌==◌, List, [], ◌∷◌, ◌++◌, length, map, get_or, set, All, Option, Some, None, refl, sym, ◌∙◌, ap, arith, length-append, nat_lt}
use Rattle.std.proofs.lemmas.Bool.Decides.{nat_tests}
use Rattle.std.proofs.lemmas.List.{get_or-set_same, get_or-set_other, get_or_past, get_or_default}
use Rattle.std.proofs.Math.ListN.{get_or-append, get_or-map}
use Rattle.std.proofs.lemmas.List.Elements.{at_read, All-from_get_or}
use Rattle.std.proofs.Math.Seq.{get_or-append_seam}
use Rattle.std.specs.Ordering.{nat_cmp, eq_by_cmp}
use Rattle.std.specs.Cmp.{nat_cmp_total}
use Rattle.std.specs.Option.{IsSome}
use Rattle.std.specs.FinMap as finite
use Rattle.std.specs.FinMap.{find, nat_cmp-IsAntisymmetric}
use Rattle.gpu_slots.specs.declared.slot_map.Place.{Place}
use Rattle.gpu_slots.specs.Places.{entry_at, live_from, live_in, place_at}

pub key_test : (q k : ℕ) → eq_by_cmp nat_cmp q k ≡ (q == k)
key_test q k = grind (arith, nat_tests)

pub same : (a b : ℕ) → a ≡ b → (a == b) ≡ true
same a b e = grind (arith, nat_tests)

pub other : (a b : ℕ) → a ≢ b → (a == b) ≡ false
other a b ne = grind (arith, nat_tests)

-- two numbers are equal, or they differ
pub one_or_two : (a b : ℕ) → (a ≡ b) ⊎ (a ≢ b)
one_or_two a b = elim (a == b) as (λ t. (a == b) ≡ t → (a ≡ b) ⊎ (a ≢ b)) [ true ↦ λ e. inl (one e) | false ↦ λ e. inr (two e) ] refl
  where
    one : (a == b) ≡ true → a ≡ b
    one e = grind (arith, nat_tests)

    two : (a == b) ≡ false → a ≢ b
    two e = grind (arith, nat_tests)

pub below_or_past : (a b : ℕ) → (a < b) ⊎ (b ≤ a)
below_or_past a b = elim (nat_lt a b) as (λ t. nat_lt a b ≡ t → (a < b) ⊎ (b ≤ a)) [ true ↦ λ e. inl (below e) | false ↦ λ e. inr (past e) ] refl
  where
    below : nat_lt a b ≡ true → a < b
    below e = grind (arith, nat_tests)

    past : nat_lt a b ≡ false → b ≤ a
    past e = grind (arith, nat_tests)

-- a key's place and generation
pub key_parts : (key : ℕ) → key ≡ key / 2 ^ 32 * 2 ^ 32 + key % 2 ^ 32
key_parts key = omega arith

pub place_in : (key : ℕ) → key % 2 ^ 32 < 2 ^ 32
place_in key = omega arith

pub parts_of : (g i : ℕ) → i < 2 ^ 32 → ((g * 2 ^ 32 + i) / 2 ^ 32 ≡ g) × ((g * 2 ^ 32 + i) % 2 ^ 32 ≡ i)
parts_of g i within = (omega arith, omega arith)

one_generation : (g h i : ℕ) → g * 2 ^ 32 + i ≡ h * 2 ^ 32 + i → g ≡ h
one_generation g h i e = omega arith

one_place : (g h i j : ℕ) → i < 2 ^ 32 → j < 2 ^ 32 → g * 2 ^ 32 + i ≡ h * 2 ^ 32 + j → i ≡ j
one_place g h i j a b e = omega arith

same_generation : (g h i : ℕ) → (g * 2 ^ 32 + i == h * 2 ^ 32 + i) ≡ (h == g)
same_generation g h i = elim (one_or_two g h) [
  | inl e ↦ same _ _ (ap (λ n. n * 2 ^ 32 + i) e) ∙ sym (same h g (sym e))
  | inr ne ↦ other _ _ (λ e. ne (one_generation g h i e)) ∙ sym (other h g (λ e. ne (sym e)))
]

module _ {T : Type 0} where
  pub either : (b : Bool) (o : Option T) → cond b o o ≡ o
  either true o = refl
  either false o = refl

  pub no_value : (o : Option T) → o ≡ None → IsSome o → ⊥
  no_value None e h = let n : false ≡ true = h in cc
  no_value (Some x) e h = cc

  -- the value of a place, where it has that generation
  abbrev pub of_generation : ℕ → Place T → Option T
  of_generation g p = cond (p.generation == g) p.value None

  -- the value of a key
  abbrev pub held : List (Place T) → ℕ → Option T
  held places key = of_generation (key / 2 ^ 32) (place_at places (key % 2 ^ 32))

  -- Look-ups among the entries.

  entry_other : (q g i : ℕ) (v : Option T) (later : List (ℕ × T)) → q ≢ g * 2 ^ 32 + i → find nat_cmp q (entry_at g i v later) ≡ find nat_cmp q later
  entry_other q g i None later ne = refl
  entry_other q g i (Some x) later ne = ap (λ t. cond t (Some x) (find nat_cmp q later)) (key_test q (g * 2 ^ 32 + i) ∙ other q (g * 2 ^ 32 + i) ne)

  entry_here : (g h i : ℕ) (v : Option T) (later : List (ℕ × T)) → find nat_cmp (g * 2 ^ 32 + i) later ≡ None
      → find nat_cmp (g * 2 ^ 32 + i) (entry_at h i v later) ≡ cond (h == g) v None
  entry_here g h i None later none = none ∙ sym (either (h == g) None)
  entry_here g h i (Some x) later none =
      ap (λ t. cond t (Some x) (find nat_cmp (g * 2 ^ 32 + i) later)) (key_test (g * 2 ^ 32 + i) (h * 2 ^ 32 + i) ∙ same_generation g h i)
      ∙ ap (λ o. cond (h == g) (Some x) o) none

  find_before : (places : List (Place T)) (i j g : ℕ) → j < i → i + length places ≤ 2 ^ 32 → find nat_cmp (g * 2 ^ 32 + j) (live_from i places) ≡ None
  find_before [] i j g below fits = refl
  find_before (p ∷ rest) i j g below fits =
      entry_other (g * 2 ^ 32 + j) p.generation i p.value (live_from (i + 1) rest) (λ e. absurd (differs e))
      ∙ find_before rest (i + 1) j g (omega arith) (omega arith)
    where
      differs : g * 2 ^ 32 + j ≡ p.generation * 2 ^ 32 + i → ⊥
      differs e = let one = one_place g p.generation j i (omega arith) (omega arith) e in omega (arith, one)

  find_from : (places : List (Place T)) (i j g : ℕ) → i + j < 2 ^ 32 → i + length places ≤ 2 ^ 32
      → find nat_cmp (g * 2 ^ 32 + (i + j)) (live_from i places) ≡ of_generation g (place_at places j)
  find_from [] i j g within fits = sym (either (0 == g) None)
  find_from (p ∷ rest) i zero g within fits =
      let sum : i + 0 ≡ i = omega arith in
      rw sum (entry_here g p.generation i p.value (live_from (i + 1) rest) (find_before rest (i + 1) i g (omega arith) (omega arith)))
  find_from (p ∷ rest) i (suc j) g within fits =
      entry_other (g * 2 ^ 32 + (i + suc j)) p.generation i p.value (live_from (i + 1) rest) (λ e. absurd (differs e))
      ∙ ap (λ n. find nat_cmp (g * 2 ^ 32 + n) (live_from (i + 1) rest)) (shift)
      ∙ find_from rest (i + 1) j g (omega arith) (omega arith)
    where
      shift : i + suc j ≡ i + 1 + j
      shift = omega arith

      differs : g * 2 ^ 32 + (i + suc j) ≡ p.generation * 2 ^ 32 + i → ⊥
      differs e = let one = one_place g p.generation (i + suc j) i within (omega arith) e in omega (arith, one)

  -- the value under a key
  pub get_live : (places : List (Place T)) (key : ℕ) → length places ≤ 2 ^ 32 → finite.get (live_in places) key ≡ held places key
  get_live places key few =
      finite.get-from_entries nat_cmp_total (live_from 0 places) key
      ∙ ap (λ q. find nat_cmp q (live_from 0 places)) (key_parts key ∙ ap (λ n. key / 2 ^ 32 * 2 ^ 32 + n) (zero_more))
      ∙ find_from places 0 (key % 2 ^ 32) (key / 2 ^ 32) (omega (arith, place_in key)) (omega arith)
    where
      zero_more : key % 2 ^ 32 ≡ 0 + key % 2 ^ 32
      zero_more = omega arith

  -- a live key is of a place that is there, and of its generation
  pub record IsLiveAt (places : List (Place T)) (key : ℕ) : Type 0 where
    pub within : key % 2 ^ 32 < length places
    pub of_it : (place_at places (key % 2 ^ 32)).generation ≡ key / 2 ^ 32
    pub value : finite.get (live_in places) key ≡ (place_at places (key % 2 ^ 32)).value

  pub live_at : (places : List (Place T)) (key : ℕ) → length places ≤ 2 ^ 32 → IsSome (finite.get (live_in places) key) → IsLiveAt places key
  live_at places key few live = elim (one_or_two (place_at places (key % 2 ^ 32)).generation (key / 2 ^ 32)) [
    | inl e ↦
        let value = get_live places key few ∙ ap (λ t. cond t (place_at places (key % 2 ^ 32)).value None) (same _ _ e) in
        record {
          within = elim (below_or_past (key % 2 ^ 32) (length places)) [
            | inl below ↦ below
            | inr past ↦ absurd (no_value _ (value ∙ ap (λ (p : Place T). p.value) (get_or_past places (key % 2 ^ 32) _ past)) live)
          ];
          of_it = e;
          value = value;
        }
    | inr ne ↦ absurd (no_value _ (get_live places key few ∙ ap (λ t. cond t (place_at places (key % 2 ^ 32)).value None) (other _ _ ne)) live)
  ]

  -- a place that is read is the one of that number
  pub read_at : (places : List (Place T)) (i : ℕ) (p : Place T) → i < length places → p ≡ get_or places i p → p ≡ place_at places i
  read_at places i p within is = at_read places (λ q. p ≡ q) i p within is refl _

  pub get_here : (places : List (Place T)) (key : ℕ) (p : Place T) → length places ≤ 2 ^ 32 → p ≡ place_at places (key % 2 ^ 32) → p.generation ≡ key / 2 ^ 32
      → finite.get (live_in places) key ≡ p.value
  get_here places key p few is e =
      get_live places key few ∙ ap (of_generation (key / 2 ^ 32)) (sym is)
      ∙ ap (λ t. cond t p.value None) (same p.generation (key / 2 ^ 32) e)

  pub get_later : (places : List (Place T)) (key : ℕ) (p : Place T) → length places ≤ 2 ^ 32 → p ≡ place_at places (key % 2 ^ 32) → p.generation ≢ key / 2 ^ 32
      → finite.get (live_in places) key ≡ None
  get_later places key p few is ne =
      get_live places key few ∙ ap (of_generation (key / 2 ^ 32)) (sym is)
      ∙ ap (λ t. cond t p.value None) (other p.generation (key / 2 ^ 32) ne)

  pub get_past : (places : List (Place T)) (key : ℕ) → length places ≤ 2 ^ 32 → length places ≤ key % 2 ^ 32 → finite.get (live_in places) key ≡ None
  get_past places key few past =
      get_live places key few ∙ ap (of_generation (key / 2 ^ 32)) (get_or_past places (key % 2 ^ 32) _ past) ∙ either _ None

  -- where a key is not live, none is taken out
  pub remove_none : (m : finite.FinMap nat_cmp T) (key : ℕ) → finite.get m key ≡ None → m ≡ finite.remove m key
  remove_none m key none = finite.same_map nat_cmp_total nat_cmp-IsAntisymmetric _ _ (λ q. sym (by_key q))
    where
      by_key : (q : ℕ) → finite.get (finite.remove m key) q ≡ finite.get m q
      by_key q = elim (one_or_two q key) [
        | inl e ↦ finite.get-remove nat_cmp_total m key q ∙ ap (λ t. cond t None (finite.get m q)) (key_test q key ∙ same q key e) ∙ sym (ap (finite.get m) e ∙ none)
        | inr ne ↦ finite.get-remove nat_cmp_total m key q ∙ ap (λ t. cond t None (finite.get m q)) (key_test q key ∙ other q key ne)
      ]

  pub generation_at : (places : List (Place T)) (i : ℕ) → get_or (map (λ (p : Place T). p.generation) places) i 0 ≡ (place_at places i).generation
  generation_at places i = get_or-map (λ (p : Place T). p.generation) places i (record { generation = 0; value = None })

  -- One place is changed.

  -- that place is now so, and each other is as it was
  pub record Changes (old new : List (Place T)) (i : ℕ) (p : Place T) : Type 0 where
    pub changed : place_at new i ≡ p
    pub others : (j : ℕ) → j ≢ i → place_at new j ≡ place_at old j

  pub changes_set : (old new : List (Place T)) (i : ℕ) (p : Place T) → i < length old → new ≡ set old i p → Changes old new i p
  changes_set old new i p within is = rw is (record {
    changed = get_or-set_same old i p _ within;
    others = λ j ne. get_or-set_other old i j p _ ne;
  })

  pub changes_push : (old new : List (Place T)) (p : Place T) → new ≡ old ++ p ∷ [] → Changes old new (length old) p
  changes_push old new p is = rw is (record {
    changed = get_or-append_seam old p [] _;
    others = by_place;
  })
    where
      by_place : (j : ℕ) → j ≢ length old → place_at (old ++ p ∷ []) j ≡ place_at old j
      by_place j ne = elim (below_or_past j (length old)) [
        | inl below ↦ get_or-append old (p ∷ []) _ j below
        | inr past ↦
            let longer = length-append old (p ∷ []) in
            get_or_past (old ++ p ∷ []) j _ (omega (arith, longer)) ∙ sym (get_or_past old j _ past)
      ]

  module _ (old new : List (Place T)) (i g : ℕ) (few_old : length old ≤ 2 ^ 32) (few : length new ≤ 2 ^ 32) (fits : i < 2 ^ 32) where
    not_in_place : (q : ℕ) → q % 2 ^ 32 ≢ i → q ≢ g * 2 ^ 32 + i
    not_in_place q ne e = ne (ap (λ n. n % 2 ^ 32) e ∙ (parts_of g i fits).1)

    -- in that place the generation identifies the key
    by_generation : (q : ℕ) → q % 2 ^ 32 ≡ i → (q == g * 2 ^ 32 + i) ≡ (g == q / 2 ^ 32)
    by_generation q e =
        ap (λ n. n == g * 2 ^ 32 + i) (key_parts q ∙ ap (λ n. q / 2 ^ 32 * 2 ^ 32 + n) e)
        ∙ same_generation (q / 2 ^ 32) g i

    held_other : (q : ℕ) (p : Place T) → Changes old new i p → q % 2 ^ 32 ≢ i → held new q ≡ held old q
    held_other q p c ne = ap (of_generation (q / 2 ^ 32)) (c.others (q % 2 ^ 32) ne)

    held_empty : (q : ℕ) (places : List (Place T)) → (place_at places i).value ≡ None → q % 2 ^ 32 ≡ i → held places q ≡ None
    held_empty q places empty e =
        ap (λ n. of_generation (q / 2 ^ 32) (place_at places n)) e
        ∙ ap (λ o. cond ((place_at places i).generation == q / 2 ^ 32) o None) empty
        ∙ either _ None

    inserted : (v : T) → ((q : ℕ) → held new q ≡ cond (q == g * 2 ^ 32 + i) (Some v) (held old q)) → live_in new ≡ finite.insert (live_in old) (g * 2 ^ 32 + i) v
    inserted v is = finite.same_map nat_cmp_total nat_cmp-IsAntisymmetric _ _ (λ q.
        get_live new q few ∙ is q
        ∙ sym (finite.get-insert nat_cmp_total (live_in old) (g * 2 ^ 32 + i) v q
        ∙ ap (λ t. cond t (Some v) (finite.get (live_in old) q)) (key_test q (g * 2 ^ 32 + i))
        ∙ ap (cond (q == g * 2 ^ 32 + i) (Some v)) (get_live old q few_old)))

    -- A place is written: what is found then, where the key is of that place.
    held_set : (p : Place T) (o : Option T) → Changes old new i p → ((q : ℕ) → q % 2 ^ 32 ≡ i → of_generation (q / 2 ^ 32) p ≡ cond (g == q / 2 ^ 32) o (held old q))
        → (q : ℕ) → held new q ≡ cond (q == g * 2 ^ 32 + i) o (held old q)
    held_set p o c here q = elim (one_or_two (q % 2 ^ 32) i) [
      | inl e ↦
          ap (λ n. of_generation (q / 2 ^ 32) (place_at new n)) e
          ∙ ap (of_generation (q / 2 ^ 32)) c.changed ∙ here q e ∙ sym (ap (λ t. cond t o (held old q)) (by_generation q e))
      | inr ne ↦ held_other q _ c ne ∙ sym (ap (λ t. cond t o (held old q)) (other q _ (not_in_place q ne)))
    ]

    -- the value of that generation is the only one there
    alone : (o : Option T) → (place_at old i).generation ≡ g → (q : ℕ) → q % 2 ^ 32 ≡ i → cond (g == q / 2 ^ 32) o (held old q) ≡ cond (g == q / 2 ^ 32) o None
    alone o there q e =
        ap (λ n. cond (g == q / 2 ^ 32) o (of_generation (q / 2 ^ 32) (place_at old n))) e
        ∙ ap (λ n. cond (g == q / 2 ^ 32) o (cond (n == q / 2 ^ 32) (place_at old i).value None)) there
        ∙ once (g == q / 2 ^ 32) (place_at old i).value
      where
        once : (b : Bool) (was : Option T) → cond b o (cond b was None) ≡ cond b o None
        once true was = refl
        once false was = refl

    -- A value is put into an empty place.
    held_put : (v : T) → Changes old new i (record { generation = g; value = Some v }) → (place_at old i).value ≡ None
        → (q : ℕ) → held new q ≡ cond (q == g * 2 ^ 32 + i) (Some v) (held old q)
    held_put v c empty = held_set _ (Some v) c (λ q e. sym (ap (cond (g == q / 2 ^ 32) (Some v)) (held_empty q old empty e)))

    pub live_put : (v : T) → Changes old new i (record { generation = g; value = Some v }) → (place_at old i).value ≡ None
        → live_in new ≡ finite.insert (live_in old) (g * 2 ^ 32 + i) v
    live_put v c empty = inserted v (held_put v c empty)

    -- The value is taken out of its place.
    held_out : (h : ℕ) → Changes old new i (record { generation = h; value = None }) → (place_at old i).generation ≡ g
        → (q : ℕ) → held new q ≡ cond (q == g * 2 ^ 32 + i) None (held old q)
    held_out h c there = held_set _ None c (λ q e. either _ None ∙ sym (alone None there q e ∙ either _ None))

    pub live_out : (h : ℕ) → Changes old new i (record { generation = h; value = None }) → (place_at old i).generation ≡ g
        → live_in new ≡ finite.remove (live_in old) (g * 2 ^ 32 + i)
    live_out h c there = finite.same_map nat_cmp_total nat_cmp-IsAntisymmetric _ _ (λ q.
        get_live new q few ∙ held_out h c there q
        ∙ sym (finite.get-remove nat_cmp_total (live_in old) (g * 2 ^ 32 + i) q
        ∙ ap (λ t. cond t None (finite.get (live_in old) q)) (key_test q (g * 2 ^ 32 + i))
        ∙ ap (cond (q == g * 2 ^ 32 + i) None) (get_live old q few_old)))

    -- Another value is put in the place of one.
    pub live_over : (v : T) → Changes old new i (record { generation = g; value = Some v }) → (place_at old i).generation ≡ g
        → live_in new ≡ finite.insert (live_in old) (g * 2 ^ 32 + i) v
    live_over v c there = inserted v (held_set _ (Some v) c (λ q e. sym (alone (Some v) there q e)))

    -- What is found then.

    pub get_none : (place_at old i).value ≡ None → finite.get (live_in old) (g * 2 ^ 32 + i) ≡ None
    get_none empty = get_live old _ few_old ∙ held_empty _ old empty (parts_of g i fits).1

    pub get_put : (v : T) → Changes old new i (record { generation = g; value = Some v }) → (place_at old i).value ≡ None
        → (q : ℕ) → finite.get (live_in new) q ≡ cond (q == g * 2 ^ 32 + i) (Some v) (finite.get (live_in old) q)
    get_put v c empty q = get_live new q few ∙ held_put v c empty q ∙ ap (cond (q == g * 2 ^ 32 + i) (Some v)) (sym (get_live old q few_old))

    pub get_out : (h : ℕ) → Changes old new i (record { generation = h; value = None }) → (place_at old i).generation ≡ g
        → (q : ℕ) → finite.get (live_in new) q ≡ cond (q == g * 2 ^ 32 + i) None (finite.get (live_in old) q)
    get_out h c there q = get_live new q few ∙ held_out h c there q ∙ ap (cond (q == g * 2 ^ 32 + i) None) (sym (get_live old q few_old))

-- where nothing is live, no place has a value
module _ {T : Type 0} where
  pub none_live : (places : List (Place T)) → length places ≤ 2 ^ 32 → live_in places ≡ finite.empty → All (λ (p : Place T). p.value ≡ None) places
  none_live places few empty = All-from_get_or (λ p. p.value ≡ None) places (record { generation = 0; value = None }) (λ i within.
      let p = get_or places i (record { generation = 0; value = None }) in
      let parts = parts_of p.generation i (omega (arith, within, few)) in
      let at : p ≡ place_at places i = read_at places i p within (get_or_default places i _ _ within) in
      sym (get_here places (p.generation * 2 ^ 32 + i) p few (at ∙ ap (place_at places) (sym parts.1)) (sym parts.0))
      ∙ ap (λ m. finite.get m (p.generation * 2 ^ 32 + i)) empty ∙ finite.get-empty nat_cmp (p.generation * 2 ^ 32 + i))
