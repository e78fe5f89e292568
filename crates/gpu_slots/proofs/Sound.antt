-- What the calls make of places and free places that are sound, and which keys are given.
use Rattle.std.proofs.Common.{◌≡◌, ◌≢◌, ◌⊎◌, ◌↔◌, inl, inr, ℕ, ◌+◌, ◌-◌, ◌*◌, ◌/◌, ◌%◌, ◌^◌, ◌<◌, ◌≤◌, Bool, true, false, cond, ◌==◌, List, [], ◌∷◌, ◌++◌, length, map, get_or, set, take, Option, Some, None, refl, sym, ◌∙◌, ap, subst, arith, length-append}
use Rattle.std.proofs.Math.ListN.{get_or-append}
use Rattle.std.proofs.Math.Seq.{get_or-append_seam, map-set_same}
use Rattle.std.proofs.lemmas.List.{get_or_past, get_or-take, length-set, length-take-le}
use Rattle.std.specs.Ordering.{nat_cmp}
use Rattle.std.specs.Cmp.{nat_cmp_total}
use Rattle.std.specs.Option.{IsSome, OnSome, is_some}
use Rattle.std.specs.FinMap as finite
use Rattle.gpu_slots.specs.declared.slot_map.Place.{Place}
use Rattle.gpu_slots.specs.SlotMap.{SlotState, IsGiven, IsGone, StaysGone}
use Rattle.gpu_slots.specs.Places.{live_in, place_at, IsFree, AreSoundPlaces}
use Rattle.gpu_slots.proofs.Lookups.{IsLiveAt, live_at, place_in, Changes, changes_push, changes_set, one_or_two, key_parts, parts_of, generation_at, no_value, either, key_test, same, other, live_put, live_over, live_out, get_none, get_put, get_out}

-- The last of the free places is taken off them.
pub record TakesLast (free left : List ℕ) (i : ℕ) : Type 0 where
  pub count : ℕ
  pub one_less : count + 1 ≡ length free
  pub last : i ≡ get_or free count 0
  pub rest : left ≡ take count free

pub takes_last : (free left : List ℕ) (len len_left i : ℕ) → len ≡ length free → len_left + 1 ≡ len → ((d : ℕ) → 0 < len → Some i ≡ Some (get_or free (len - 1) d)) → left ≡ take (len - 1) free
    → TakesLast free left i
takes_last free left len len_left i is more value rest = record {
  count = len - 1;
  one_less = omega (arith, is, more);
  last = let found = value 0 (omega (arith, more)) in cc;
  rest = rest;
}

pub on_some : {X : Type 0} (o : Option X) {P : Type 0} → P → OnSome o P
on_some None p = tt
on_some (Some x) p = p

module _ {T : Type 0} where
  -- what is seen of these values and generations, and of these places, but for the room
  abbrev pub roomless : finite.FinMap nat_cmp T → List ℕ → SlotState T
  roomless m gs = record { live = m; generations = gs; room = 0 }

  abbrev pub state : List (Place T) → SlotState T
  state places = roomless (live_in places) (map (λ (p : Place T). p.generation) places)

  pub len_put : (m : finite.FinMap nat_cmp T) (k : ℕ) (v : T) → finite.get m k ≡ None → finite.len (finite.insert m k v) ≡ finite.len m + 1
  len_put m k v none = finite.len-insert nat_cmp_total m k v ∙ ap (λ o. cond (is_some o) (finite.len m) (finite.len m + 1)) none

  pub len_out : (m : finite.FinMap nat_cmp T) (k : ℕ) → IsSome (finite.get m k) → finite.len (finite.remove m k) + 1 ≡ finite.len m
  len_out m k there = one_less (finite.len m) some (finite.len-remove nat_cmp_total m k ∙ ap (λ b. cond b (finite.len m - 1) (finite.len m)) there)
    where
      some : finite.len m ≢ 0
      some none = no_value (finite.get m k) (ap (λ (n : finite.FinMap nat_cmp T). finite.get n k) (finite.empty_of_len m none) ∙ finite.get-empty nat_cmp k) there

      one_less : {k : ℕ} (n : ℕ) → n ≢ 0 → k ≡ n - 1 → k + 1 ≡ n
      one_less n ne e = omega arith

  -- there is a value somewhere
  pub some_live : (m : finite.FinMap nat_cmp T) (k : ℕ) → IsSome (finite.get m k) → 0 < finite.len m
  some_live m k there = let one = len_out m k there in omega (arith, one)

  none_past : (i : ℕ) → (place_at {T = T} [] i).value ≡ None
  none_past i = ap (λ (p : Place T). p.value) {x = place_at {T = T} [] i} {y = record { generation = 0; value = None }} (get_or_past [] i _ (omega arith))

  pub sound_new : (capacity : ℕ) → AreSoundPlaces {T = T} [] [] 0 capacity
  sound_new capacity = record {
    few = omega arith;
    counted = sym (finite.len-empty nat_cmp T);
    begun = λ i within. absurd (omega (arith, within));
    unspent = λ i some. absurd (no_value {T = T} _ (none_past i) some);
    all_free = λ k within. absurd (omega (arith, within));
    distinct = λ j k less within. absurd (omega (arith, within));
    fits = omega arith;
  }

  free_kept : (old new : List (Place T)) (i j : ℕ) (p : Place T) → Changes old new i p → length old ≤ length new → j ≢ i → IsFree old j → IsFree new j
  free_kept old new i j p c longer ne f = record {
    within = let w = f.within in omega (arith, w, longer);
    empty = ap (λ (q : Place T). q.value) (c.others j ne) ∙ f.empty;
    unspent = let u = f.unspent in subst (λ (q : Place T). q.generation < 2 ^ 32) (sym (c.others j ne)) u;
  }

  begun_kept : (old new : List (Place T)) (i : ℕ) (p : Place T) → Changes old new i p → ((j : ℕ) → j < length new → j ≢ i → j < length old) → 0 < p.generation
      → ((j : ℕ) → j < length old → 0 < (place_at old j).generation) → (j : ℕ) → j < length new → 0 < (place_at new j).generation
  begun_kept old new i p c others begins begun j within = elim (one_or_two j i) [
    | inl e ↦ subst (λ n. 0 < (place_at new n).generation) (sym e) (subst (λ (q : Place T). 0 < q.generation) (sym c.changed) begins)
    | inr ne ↦ subst (λ (q : Place T). 0 < q.generation) (sym (c.others j ne)) (begun j (others j within ne))
  ]

  -- the place of each value has a generation that is one
  abbrev pub AreUnspent : List (Place T) → Type 0
  AreUnspent places = (j : ℕ) → IsSome (place_at places j).value → (place_at places j).generation < 2 ^ 32

  unspent_kept : (old new : List (Place T)) (i : ℕ) (p : Place T) → Changes old new i p → (IsSome p.value → p.generation < 2 ^ 32) → AreUnspent old → AreUnspent new
  unspent_kept old new i p c this others j some = elim (one_or_two j i) [
    | inl e ↦
        let there : place_at new j ≡ p = ap (place_at new) e ∙ c.changed in
        subst (λ (q : Place T). q.generation < 2 ^ 32) (sym there) (this (subst (λ (q : Place T). IsSome q.value) there some))
    | inr ne ↦ subst (λ (q : Place T). q.generation < 2 ^ 32) (sym (c.others j ne)) (others j (subst (λ (q : Place T). IsSome q.value) (c.others j ne) some))
  ]

  -- A value goes into an empty place, which is then no longer free.
  module _ (old new : List (Place T)) (i g : ℕ) (v : T) (c : Changes old new i (record { generation = g; value = Some v })) (empty : (place_at old i).value ≡ None) (few_old : length old ≤ 2 ^ 32) (few : length new < 2 ^ 32) (fits : i < 2 ^ 32) where
    le : length new ≤ 2 ^ 32
    le = omega (arith, few)

    pub sound_put : (free left : List ℕ) (len capacity : ℕ) → AreSoundPlaces old free len capacity → 0 < g → g < 2 ^ 32 → length old ≤ length new → ((j : ℕ) → j < length new → j ≢ i → j < length old)
        → ((k : ℕ) → k < length left → (k < length free) × (get_or left k 0 ≡ get_or free k 0)) → ((k : ℕ) → k < length left → get_or left k 0 ≢ i)
        → length left + (len + 1) ≤ capacity → AreSoundPlaces new left (len + 1) capacity
    sound_put free left len capacity s begins few_times longer others within apart room = record {
      few = few;
      counted =
          let counted = s.counted in
          let more = ap (λ (m : finite.FinMap nat_cmp T). finite.len m) (live_put old new i g few_old le fits v c empty)
          ∙ len_put (live_in old) (g * 2 ^ 32 + i) v (get_none old new i g few_old le fits empty) in
          omega (arith, counted, more);
      begun = begun_kept old new i _ c others begins s.begun;
      unspent = unspent_kept old new i _ c (λ some. few_times) s.unspent;
      all_free = λ k below. free_kept old new i _ _ c longer (apart k below) (subst (IsFree old) (sym (within k below).1) (s.all_free k (within k below).0));
      distinct = λ j k less below. λ e.
          let j_below : j < length left = omega (arith, less, below) in
          s.distinct j k less (within k below).0 (sym (within j j_below).1 ∙ e ∙ (within k below).1);
      fits = omega (arith, room);
    }

    gens_here : (q : ℕ) → q % 2 ^ 32 ≡ i → get_or (map (λ (p : Place T). p.generation) new) (q % 2 ^ 32) 0 ≡ g
    gens_here q e = generation_at new (q % 2 ^ 32) ∙ ap (λ n. (place_at new n).generation) e ∙ ap (λ (p : Place T). p.generation) c.changed

    gens_were : (q : ℕ) → q % 2 ^ 32 ≡ i → get_or (map (λ (p : Place T). p.generation) old) (q % 2 ^ 32) 0 ≡ (place_at old i).generation
    gens_were q e = generation_at old (q % 2 ^ 32) ∙ ap (λ n. (place_at old n).generation) e

    gens_other : (q : ℕ) → q % 2 ^ 32 ≢ i → get_or (map (λ (p : Place T). p.generation) new) (q % 2 ^ 32) 0 ≡ get_or (map (λ (p : Place T). p.generation) old) (q % 2 ^ 32) 0
    gens_other q ne = generation_at new (q % 2 ^ 32) ∙ ap (λ (p : Place T). p.generation) (c.others (q % 2 ^ 32) ne) ∙ sym (generation_at old (q % 2 ^ 32))

    pub put_is_new : (place_at old i).generation ≤ g → IsGiven (state old) (g * 2 ^ 32 + i) → ⊥
    put_is_new up given = elim given [
      | inl p ↦
          let parts = parts_of g i fits in
          let were = gens_were (g * 2 ^ 32 + i) parts.1 in
          let below = p.1 in
          let is = parts.0 in
          omega (arith, up, were, below, is)
      | inr live ↦ no_value _ (get_none old new i g few_old le fits empty) live
    ]

    pub put_given : (place_at old i).generation ≤ g → ((x : ℕ) → 0 < x → x < g → x < (place_at old i).generation) → (q : ℕ)
        → IsGiven (state new) q
        ↔ (IsGiven (state old) q ⊎ (q ≡ g * 2 ^ 32 + i))
    put_given up had q = (to, from)
      where
        found : (t : Bool) → (q == g * 2 ^ 32 + i) ≡ t → finite.get (live_in new) q ≡ cond t (Some v) (finite.get (live_in old) q)
        found t e = get_put old new i g few_old le fits v c empty q ∙ ap (λ b. cond b (Some v) (finite.get (live_in old) q)) e

        to : IsGiven (state new) q
            → IsGiven (state old) q ⊎ (q ≡ g * 2 ^ 32 + i)
        to given = elim given [
          | inl p ↦ elim (one_or_two (q % 2 ^ 32) i) [
            | inl e ↦
                let now = gens_here q e in
                let were = gens_were q e in
                let below = p.1 in
                let more = had (q / 2 ^ 32) p.0 (omega (arith, now, below)) in
                inl (inl (p.0, omega (arith, were, more)))
            | inr ne ↦ let same = gens_other q ne in let below = p.1 in inl (inl (p.0, omega (arith, same, below)))
          ]
          | inr live ↦ elim (one_or_two q (g * 2 ^ 32 + i)) [
            | inl e ↦ inr e
            | inr ne ↦ inl (inr (subst IsSome (found false (other q _ ne)) live))
          ]
        ]

        from : IsGiven (state old) q ⊎ (q ≡ g * 2 ^ 32 + i)
            → IsGiven (state new) q
        from (inl (inl p)) = elim (one_or_two (q % 2 ^ 32) i) [
          | inl e ↦ inl (p.0, omega (arith, gens_here q e, gens_were q e, p.1, up))
          | inr ne ↦ let same = gens_other q ne in let below = p.1 in inl (p.0, omega (arith, same, below))
        ]
        from (inl (inr live)) = elim (one_or_two q (g * 2 ^ 32 + i)) [
          | inl e ↦ inr (subst IsSome (sym (found true (same q _ e))) refl)
          | inr ne ↦ inr (subst IsSome (sym (found false (other q _ ne))) live)
        ]
        from (inr e) = inr (subst IsSome (sym (found true (same q _ e))) refl)

  -- A value goes into a place that is added.
  module _ (old new : List (Place T)) (v : T) (is : new ≡ old ++ record { generation = 1; value = Some v } ∷ []) (few : length old + 1 < 2 ^ 32) where
    added : Changes old new (length old) (record { generation = 1; value = Some v })
    added = changes_push old new _ is

    past_last : place_at old (length old) ≡ record { generation = 0; value = None }
    past_last = get_or_past old (length old) _ (omega arith)

    past_empty : (place_at old (length old)).value ≡ None
    past_empty = ap (λ (p : Place T). p.value) past_last

    past_unused : (place_at old (length old)).generation ≡ 0
    past_unused = ap (λ (p : Place T). p.generation) past_last

    one_more : length new ≡ length old + 1
    one_more = ap length is ∙ length-append old (record { generation = 1; value = Some v } ∷ [])

    few_old : length old ≤ 2 ^ 32
    few_old = omega (arith, few)

    few_new : length new < 2 ^ 32
    few_new = omega (arith, few, one_more)

    le_new : length new ≤ 2 ^ 32
    le_new = omega (arith, few, one_more)

    last_fits : length old < 2 ^ 32
    last_fits = omega (arith, few)

    pub sound_push : (free left : List ℕ) (len capacity : ℕ) → AreSoundPlaces old free len capacity → length left ≡ 0 → len + 1 ≤ capacity → AreSoundPlaces new left (len + 1) capacity
    sound_push free left len capacity s none room =
        sound_put old new (length old) 1 v added past_empty few_old few_new last_fits free left len capacity s (omega arith) (omega arith) (omega (arith, one_more))
        (λ j below ne. omega (arith, below, ne, one_more)) (λ k below. absurd (omega (arith, below, none))) (λ k below. absurd (omega (arith, below, none))) (omega (arith, none, room))

    pub push_live : live_in new ≡ finite.insert (live_in old) (2 ^ 32 + length old) v
    push_live = live_put old new (length old) 1 few_old le_new last_fits v added past_empty

    pub push_is_new : IsGiven (state old) (2 ^ 32 + length old) → ⊥
    push_is_new = put_is_new old new (length old) 1 v added past_empty few_old few_new last_fits (omega (arith, past_unused))

    pub push_given : (q : ℕ)
        → IsGiven (state new) q
        ↔ (IsGiven (state old) q ⊎ (q ≡ 2 ^ 32 + length old))
    push_given = put_given old new (length old) 1 v added past_empty few_old few_new last_fits (omega (arith, past_unused)) (λ x some less. absurd (omega (arith, some, less)))

  pub last_free : (old : List (Place T)) (free left : List ℕ) (len capacity i : ℕ) → AreSoundPlaces old free len capacity → TakesLast free left i → IsFree old i
  last_free old free left len capacity i s t = subst (IsFree old) (sym t.last) (s.all_free t.count (let one_less = t.one_less in omega (arith, one_less)))

  -- A value goes into that place.
  module _ (old : List (Place T)) (free left : List ℕ) (len capacity i : ℕ) (p : Place T) (v : T) (s : AreSoundPlaces old free len capacity) (t : TakesLast free left i) (is : i < length old → p ≡ place_at old i) where
    abbrev pub refilled : List (Place T)
    refilled = set old i (record { generation = p.generation; value = Some v })

    was_free : IsFree old i
    was_free = last_free old free left len capacity i s t

    there : p ≡ place_at old i
    there = is was_free.within

    fill_empty : (place_at old i).value ≡ None
    fill_empty = was_free.empty

    pub fill_was_empty : p.value ≡ None
    fill_was_empty = ap (λ (q : Place T). q.value) there ∙ fill_empty

    same_generation : p.generation ≡ (place_at old i).generation
    same_generation = ap (λ (q : Place T). q.generation) there

    pub fill_begun : 0 < p.generation
    fill_begun = let begun = s.begun i was_free.within in omega (arith, begun, same_generation)

    pub fill_unspent : p.generation < 2 ^ 32
    fill_unspent = let unspent = was_free.unspent in omega (arith, unspent, same_generation)

    filled : Changes old refilled i (record { generation = p.generation; value = Some v })
    filled = changes_set old _ i _ was_free.within refl

    few : length old < 2 ^ 32
    few = s.few

    le_old : length old ≤ 2 ^ 32
    le_old = omega (arith, few)

    as_long : length refilled ≡ length old
    as_long = length-set old i _

    few_filled : length refilled < 2 ^ 32
    few_filled = omega (arith, few, as_long)

    le_filled : length refilled ≤ 2 ^ 32
    le_filled = omega (arith, few, as_long)

    pub place_fits : i < 2 ^ 32
    place_fits = let within = was_free.within in omega (arith, few, within)

    one_less : length left + 1 ≡ length free
    one_less =
        let one_less = t.one_less in
        let taken = ap length t.rest in
        let short = length-take-le t.count free (omega (arith, one_less)) in
        omega (arith, taken, short, one_less)

    pub sound_fill : AreSoundPlaces refilled left (len + 1) capacity
    sound_fill =
        sound_put old _ i p.generation v filled fill_empty le_old few_filled place_fits free left len capacity s fill_begun fill_unspent (omega (arith, as_long))
        (λ j below ne. omega (arith, below, as_long)) within apart (let fits = s.fits in omega (arith, fits, one_less))
      where
        within : (k : ℕ) → k < length left → (k < length free) × (get_or left k 0 ≡ get_or free k 0)
        within k below = (omega (arith, below, one_less), ap (λ (l : List ℕ). get_or l k 0) t.rest ∙ get_or-take t.count free k 0 (let one = t.one_less in omega (arith, below, one_less, one)))

        apart : (k : ℕ) → k < length left → get_or left k 0 ≢ i
        apart k below e = (let one = t.one_less in s.distinct k t.count (omega (arith, below, one_less, one)) (omega (arith, one)) (sym (within k below).1 ∙ e ∙ t.last))

    pub fill_live : live_in refilled ≡ finite.insert (live_in old) (p.generation * 2 ^ 32 + i) v
    fill_live = live_put old _ i p.generation le_old le_filled place_fits v filled fill_empty

    pub fill_is_new : IsGiven (state old) (p.generation * 2 ^ 32 + i) → ⊥
    fill_is_new = put_is_new old _ i p.generation v filled fill_empty le_old few_filled place_fits (omega (arith, same_generation))

    pub fill_given : (q : ℕ)
        → IsGiven (state refilled) q
        ↔ (IsGiven (state old) q ⊎ (q ≡ p.generation * 2 ^ 32 + i))
    fill_given = put_given old _ i p.generation v filled fill_empty le_old few_filled place_fits (omega (arith, same_generation)) (λ x positive less. omega (arith, less, same_generation))

  -- A value is taken out of its place.
  module _ (old new : List (Place T)) (i g h : ℕ) (c : Changes old new i (record { generation = h; value = None })) (there : (place_at old i).generation ≡ g) (up : h ≡ g + 1) (as_long : length new ≡ length old) (few_old : length old < 2 ^ 32) (fits : i < 2 ^ 32) (live : IsSome (finite.get (live_in old) (g * 2 ^ 32 + i))) where
    old_le : length old ≤ 2 ^ 32
    old_le = omega (arith, few_old)

    new_le : length new ≤ 2 ^ 32
    new_le = omega (arith, few_old, as_long)

    not_free : IsFree old i → ⊥
    not_free f = no_value _ (get_none old new i g old_le new_le fits f.empty) live

    module _ (free : List ℕ) (len capacity : ℕ) (s : AreSoundPlaces old free len capacity) where
      apart : (k : ℕ) → k < length free → get_or free k 0 ≢ i
      apart k below e = not_free (subst (IsFree old) e (s.all_free k below))

      still_free : (k : ℕ) → k < length free → IsFree new (get_or free k 0)
      still_free k below = free_kept old new i (get_or free k 0) _ c (omega (arith, as_long)) (apart k below) (s.all_free k below)

      pub some_counted : 0 < len
      some_counted = let some = some_live (live_in old) (g * 2 ^ 32 + i) live in let counted = s.counted in omega (arith, some, counted)

      less_counted : finite.len (live_in new) + 1 ≡ len
      less_counted =
          ap (λ (m : finite.FinMap nat_cmp T). finite.len m + 1) (live_out old new i g old_le new_le fits h c there)
          ∙ len_out (live_in old) (g * 2 ^ 32 + i) live ∙ sym s.counted

      few_now : length new < 2 ^ 32
      few_now = omega (arith, few_old, as_long)

      begun_now : (j : ℕ) → j < length new → 0 < (place_at new j).generation
      begun_now = begun_kept old new i _ c (λ j below ne. omega (arith, below, as_long)) (omega (arith, up)) s.begun

      -- its generations are used up
      pub sound_retired : AreSoundPlaces new free (len - 1) capacity
      sound_retired = record {
        few = few_now;
        counted = let less = less_counted in omega (arith, less);
        begun = begun_now;
        unspent = unspent_kept old new i _ c (λ some. absurd (no_value {T = T} None refl some)) s.unspent;
        all_free = still_free;
        distinct = s.distinct;
        fits = let fits = s.fits in omega (arith, fits);
      }

      -- it is free from now on
      pub sound_freed : h < 2 ^ 32 → i < length old → AreSoundPlaces new (free ++ i ∷ []) (len - 1) capacity
      sound_freed unspent within = record {
        few = few_now;
        counted = let less = less_counted in omega (arith, less);
        begun = begun_now;
        unspent = unspent_kept old new i _ c (λ some. absurd (no_value {T = T} None refl some)) s.unspent;
        all_free = λ k below. elim (one_or_two k (length free)) [
          | inl e ↦ subst (IsFree new) (sym (at_last k e)) this_free
          | inr ne ↦ subst (IsFree new) (sym (at_others k (inside k below ne))) (still_free k (inside k below ne))
        ];
        distinct = λ j k less below. λ e.
            let j_inside : j < length free = let longer = length-append free (i ∷ []) in omega (arith, less, below, longer) in
            elim (one_or_two k (length free)) [
              | inl last ↦ apart j j_inside (sym (at_others j j_inside) ∙ e ∙ at_last k last)
              | inr ne ↦ s.distinct j k less (inside k below ne) (sym (at_others j j_inside) ∙ e ∙ at_others k (inside k below ne))
            ];
        fits = let fits = s.fits in let some = some_counted in let longer = length-append free (i ∷ []) in omega (arith, fits, some, longer);
      }
        where
          inside : (k : ℕ) → k < length (free ++ i ∷ []) → k ≢ length free → k < length free
          inside k below ne = let longer = length-append free (i ∷ []) in omega (arith, below, ne, longer)

          at_others : (k : ℕ) → k < length free → get_or (free ++ i ∷ []) k 0 ≡ get_or free k 0
          at_others k below = get_or-append free (i ∷ []) 0 k below

          at_last : (k : ℕ) → k ≡ length free → get_or (free ++ i ∷ []) k 0 ≡ i
          at_last k e = ap (λ n. get_or (free ++ i ∷ []) n 0) e ∙ get_or-append_seam free i [] 0

          this_free : IsFree new i
          this_free = record {
            within = omega (arith, within, as_long);
            empty = ap (λ (p : Place T). p.value) c.changed;
            unspent = subst (λ (p : Place T). p.generation < 2 ^ 32) (sym c.changed) unspent;
          }

    gens_now : (q : ℕ) → q % 2 ^ 32 ≡ i → get_or (map (λ (p : Place T). p.generation) new) (q % 2 ^ 32) 0 ≡ h
    gens_now q e = generation_at new (q % 2 ^ 32) ∙ ap (λ n. (place_at new n).generation) e ∙ ap (λ (p : Place T). p.generation) c.changed

    gens_before : (q : ℕ) → q % 2 ^ 32 ≡ i → get_or (map (λ (p : Place T). p.generation) old) (q % 2 ^ 32) 0 ≡ g
    gens_before q e = generation_at old (q % 2 ^ 32) ∙ ap (λ n. (place_at old n).generation) e ∙ there

    gens_others : (q : ℕ) → q % 2 ^ 32 ≢ i → get_or (map (λ (p : Place T). p.generation) new) (q % 2 ^ 32) 0 ≡ get_or (map (λ (p : Place T). p.generation) old) (q % 2 ^ 32) 0
    gens_others q ne = generation_at new (q % 2 ^ 32) ∙ ap (λ (p : Place T). p.generation) (c.others (q % 2 ^ 32) ne) ∙ sym (generation_at old (q % 2 ^ 32))

    pub out_given : 0 < g → (q : ℕ)
        → IsGiven (state new) q
        ↔ IsGiven (state old) q
    out_given begun q = (to, from)
      where
        found : (t : Bool) → (q == g * 2 ^ 32 + i) ≡ t → finite.get (live_in new) q ≡ cond t None (finite.get (live_in old) q)
        found t e = get_out old new i g old_le new_le fits h c there q ∙ ap (λ b. cond b None (finite.get (live_in old) q)) e

        this_key : q % 2 ^ 32 ≡ i → q / 2 ^ 32 ≡ g → g * 2 ^ 32 + i ≡ q
        this_key e f = omega (arith, e, f, key_parts q)

        to : IsGiven (state new) q
            → IsGiven (state old) q
        to (inl p) = elim (one_or_two (q % 2 ^ 32) i) [
          | inl e ↦ elim (one_or_two (q / 2 ^ 32) g) [
            | inl f ↦ inr (subst (λ n. IsSome (finite.get (live_in old) n)) (this_key e f) live)
            | inr less ↦
                let now = gens_now q e in
                let were = gens_before q e in
                let below = p.1 in
                inl (p.0, omega (arith, now, were, below, less, up))
          ]
          | inr ne ↦ let same = gens_others q ne in let below = p.1 in inl (p.0, omega (arith, same, below))
        ]
        to (inr some) = elim (one_or_two q (g * 2 ^ 32 + i)) [
          | inl e ↦ absurd (no_value _ (found true (same q _ e)) some)
          | inr ne ↦ inr (subst IsSome (found false (other q _ ne)) some)
        ]

        from : IsGiven (state old) q
            → IsGiven (state new) q
        from (inl p) = elim (one_or_two (q % 2 ^ 32) i) [
          | inl e ↦ inl (p.0, omega (arith, gens_now q e, gens_before q e, p.1, up))
          | inr ne ↦ let same = gens_others q ne in let below = p.1 in inl (p.0, omega (arith, same, below))
        ]
        from (inr some) = elim (one_or_two q (g * 2 ^ 32 + i)) [
          | inl e ↦
              let parts = parts_of g i fits in
              let here : q % 2 ^ 32 ≡ i = ap (λ n. n % 2 ^ 32) e ∙ parts.1 in
              let of_it : q / 2 ^ 32 ≡ g = ap (λ n. n / 2 ^ 32) e ∙ parts.0 in
              let now = gens_now q here in
              inl (omega (arith, of_it, begun), omega (arith, of_it, now, up))
          | inr ne ↦ inr (subst IsSome (sym (found false (other q _ ne))) some)
        ]

  -- A live key.
  module _ (old : List (Place T)) (free : List ℕ) (len capacity : ℕ) (s : AreSoundPlaces old free len capacity) (key : ℕ) (live : IsSome (finite.get (live_in old) key)) where
    pub live_within : key % 2 ^ 32 < length old
    live_within = (live_at old key (let few = s.few in omega (arith, few)) live).within

    pub live_counted : 0 < len
    live_counted = let some = some_live (live_in old) key live in let counted = s.counted in omega (arith, some, counted)

  -- A live key's value is taken out of its place, whose generation rises.
  module _ (old : List (Place T)) (free : List ℕ) (len capacity : ℕ) (s : AreSoundPlaces old free len capacity) (key : ℕ) (p : Place T) (live : IsSome (finite.get (live_in old) key)) (is : key % 2 ^ 32 < length old → p ≡ place_at old (key % 2 ^ 32)) where
    abbrev pub vacated : List (Place T)
    vacated = set old (key % 2 ^ 32) (record { generation = p.generation + 1; value = None })

    few_placed : length old < 2 ^ 32
    few_placed = s.few

    le_placed : length old ≤ 2 ^ 32
    le_placed = omega (arith, few_placed)

    here : IsLiveAt old key
    here = live_at old key le_placed live

    take_within : key % 2 ^ 32 < length old
    take_within = here.within

    found_there : p ≡ place_at old (key % 2 ^ 32)
    found_there = is take_within

    pub take_generation : p.generation ≡ key / 2 ^ 32
    take_generation = ap (λ (q : Place T). q.generation) found_there ∙ here.of_it

    pub take_value : p.value ≡ finite.get (live_in old) key
    take_value = ap (λ (q : Place T). q.value) found_there ∙ sym here.value

    taken : Changes old vacated (key % 2 ^ 32) (record { generation = p.generation + 1; value = None })
    taken = changes_set old _ (key % 2 ^ 32) _ take_within refl

    up : p.generation + 1 ≡ key / 2 ^ 32 + 1
    up = ap (λ n. n + 1) take_generation

    as_many : length vacated ≡ length old
    as_many = length-set old (key % 2 ^ 32) _

    le_taken : length vacated ≤ 2 ^ 32
    le_taken = omega (arith, le_placed, as_many)

    live_by_parts : IsSome (finite.get (live_in old) (key / 2 ^ 32 * 2 ^ 32 + key % 2 ^ 32))
    live_by_parts = subst (λ n. IsSome (finite.get (live_in old) n)) (key_parts key) live

    pub take_retired : AreSoundPlaces vacated free (len - 1) capacity
    take_retired = sound_retired old _ (key % 2 ^ 32) (key / 2 ^ 32) (p.generation + 1) taken here.of_it up as_many few_placed (place_in key) live_by_parts free len capacity s

    pub take_freed : p.generation + 1 < 2 ^ 32 → AreSoundPlaces vacated (free ++ key % 2 ^ 32 ∷ []) (len - 1) capacity
    take_freed unspent = sound_freed old _ (key % 2 ^ 32) (key / 2 ^ 32) (p.generation + 1) taken here.of_it up as_many few_placed (place_in key) live_by_parts free len capacity s unspent take_within

    pub take_live : live_in vacated ≡ finite.remove (live_in old) key
    take_live =
        live_out old _ (key % 2 ^ 32) (key / 2 ^ 32) le_placed le_taken (place_in key) (p.generation + 1) taken here.of_it
        ∙ ap (finite.remove (live_in old)) (sym (key_parts key))

    pub take_given : (q : ℕ)
        → IsGiven (state vacated) q
        ↔ IsGiven (state old) q
    take_given =
        let begun = s.begun (key % 2 ^ 32) take_within in
        let of_it = here.of_it in
        out_given old _ (key % 2 ^ 32) (key / 2 ^ 32) (p.generation + 1) taken here.of_it up as_many few_placed (place_in key) live_by_parts (omega (arith, begun, of_it))

  -- A live key's value is changed.
  module _ (old : List (Place T)) (free : List ℕ) (len capacity : ℕ) (s : AreSoundPlaces old free len capacity) (key : ℕ) (p : Place T) (live : IsSome (finite.get (live_in old) key)) (is : key % 2 ^ 32 < length old → p ≡ place_at old (key % 2 ^ 32)) (v : T) where
    abbrev pub changed_at : List (Place T)
    changed_at = set old (key % 2 ^ 32) (record { generation = p.generation; value = Some v })

    old_fits : length old ≤ 2 ^ 32
    old_fits = let few = s.few in omega (arith, few)

    place : IsLiveAt old key
    place = live_at old key old_fits live

    of_key : p.generation ≡ key / 2 ^ 32
    of_key = ap (λ (q : Place T). q.generation) (is place.within) ∙ place.of_it

    change : Changes old changed_at (key % 2 ^ 32) (record { generation = key / 2 ^ 32; value = Some v })
    change = changes_set old changed_at (key % 2 ^ 32) _ place.within (ap (λ n. set old (key % 2 ^ 32) (record { generation = n; value = Some v })) of_key)

    same_length : length changed_at ≡ length old
    same_length = length-set old (key % 2 ^ 32) _

    changed_fits : length changed_at ≤ 2 ^ 32
    changed_fits = omega (arith, old_fits, same_length)

    pub change_live : live_in changed_at ≡ finite.insert (live_in old) key v
    change_live =
        live_over old changed_at (key % 2 ^ 32) (key / 2 ^ 32) old_fits changed_fits (place_in key) v change place.of_it
        ∙ ap (λ k. finite.insert (live_in old) k v) (sym (key_parts key))

    pub change_generations : map (λ (p : Place T). p.generation) changed_at ≡ map (λ (p : Place T). p.generation) old
    change_generations = map-set_same (λ (p : Place T). p.generation) old (key % 2 ^ 32) _ (record { generation = 0; value = None }) (ap (λ (q : Place T). q.generation) (is place.within))

    not_free_there : (k : ℕ) → k < length free → get_or free k 0 ≢ key % 2 ^ 32
    not_free_there k below e =
        let f = subst (IsFree old) e (s.all_free k below) in
        no_value _ (place.value ∙ f.empty) live

    few_times : key / 2 ^ 32 < 2 ^ 32
    few_times = subst (λ n. n < 2 ^ 32) place.of_it (s.unspent (key % 2 ^ 32) (subst IsSome place.value live))

    pub change_sound : AreSoundPlaces changed_at free len capacity
    change_sound = record {
      few = let few = s.few in omega (arith, few, same_length);
      counted =
          s.counted
          ∙ sym (ap (λ (m : finite.FinMap nat_cmp T). finite.len m) change_live
          ∙ finite.len-insert nat_cmp_total (live_in old) key v
          ∙ ap (λ b. cond b (finite.len (live_in old)) (finite.len (live_in old) + 1)) live);
      begun = begun_kept old changed_at (key % 2 ^ 32) _ change (λ j below ne. omega (arith, below, same_length)) (let begun = s.begun (key % 2 ^ 32) place.within in let of_it = place.of_it in omega (arith, begun, of_it)) s.begun;
      unspent = unspent_kept old changed_at (key % 2 ^ 32) _ change (λ some. few_times) s.unspent;
      all_free = λ k below. free_kept old changed_at (key % 2 ^ 32) _ _ change (omega (arith, same_length)) (not_free_there k below) (s.all_free k below);
      distinct = s.distinct;
      fits = s.fits;
    }

  -- Keys that are gone.

  module _ (m n : finite.FinMap nat_cmp T) (gs hs : List ℕ) (k : ℕ) where
    pub gone_put : (v : T) → (IsGiven (roomless m gs) k → ⊥) → n ≡ finite.insert m k v
        → ((q : ℕ) → IsGiven (roomless n hs) q ↔ (IsGiven (roomless m gs) q ⊎ (q ≡ k)))
        → StaysGone (roomless m gs) (roomless n hs)
    gone_put v fresh live given q gone = elim (one_or_two q k) [
      | inl e ↦ absurd (fresh (subst (IsGiven (roomless m gs)) e gone.0))
      | inr ne ↦ (
        (given q).1 (inl gone.0),
        ap (λ (l : finite.FinMap nat_cmp T). finite.get l q) live
            ∙ finite.get-insert nat_cmp_total m k v q
            ∙ ap (λ b. cond b (Some v) (finite.get m q)) (key_test q k ∙ other q k ne)
            ∙ gone.1,
      )
    ]

    none_out : (q : ℕ) → n ≡ finite.remove m k → (q ≡ k) ⊎ (finite.get m q ≡ None) → finite.get n q ≡ None
    none_out q live cases =
        ap (λ (l : finite.FinMap nat_cmp T). finite.get l q) live ∙ finite.get-remove nat_cmp_total m k q ∙ ap (λ b. cond b None (finite.get m q)) (key_test q k) ∙ by cases
      where
        by : (q ≡ k) ⊎ (finite.get m q ≡ None) → cond (q == k) None (finite.get m q) ≡ None
        by (inl e) = ap (λ b. cond b None (finite.get m q)) (same q k e)
        by (inr none) = ap (cond (q == k) None) none ∙ either (q == k) None

    pub gone_out : n ≡ finite.remove m k → ((q : ℕ) → IsGiven (roomless n hs) q ↔ IsGiven (roomless m gs) q) → StaysGone (roomless m gs) (roomless n hs)
    gone_out live given q gone = ((given q).1 gone.0, none_out q live (inr gone.1))

    pub gone_now : IsSome (finite.get m k) → n ≡ finite.remove m k → ((q : ℕ) → IsGiven (roomless n hs) q ↔ IsGiven (roomless m gs) q) → IsGone (roomless n hs) k
    gone_now some live given = ((given k).1 (inr some), none_out k live (inl refl))
