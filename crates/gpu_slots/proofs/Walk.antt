-- Where values lie, and the first one from a place on.
use Rattle.std.proofs.Common.{◌≡◌, ◌⊎◌, inl, inr, ℕ, ◌+◌, ◌*◌, ◌/◌, ◌%◌, ◌^◌, ◌<◌, ◌≤◌, List, length, None, sym, ◌∙◌, ap, subst, arith}
use Rattle.std.proofs.lemmas.List.{length-map}
use Rattle.std.specs.FinMap as finite
use Rattle.std.specs.Option.{IsSome}
use Rattle.gpu_slots.specs.declared.slot_map.Place.{Place}
use Rattle.gpu_slots.specs.Places.{live_in, place_at}
use Rattle.gpu_slots.specs.SlotMap.{SlotState, ArePlaced, HasNoneFrom, IsFirstFrom}
use Rattle.gpu_slots.proofs.Lookups.{IsLiveAt, live_at, below_or_past, one_or_two, key_parts, parts_of, no_value, get_here}
use Rattle.gpu_slots.proofs.Sound.{state}

module _ {T : Type 0} (places : List (Place T)) (few : length places < 2 ^ 32) where
  le : length places ≤ 2 ^ 32
  le = omega (arith, few)

  at_place : (key : ℕ) → IsSome (finite.get (live_in places) key) → IsLiveAt places key
  at_place key live = live_at places key le live

  -- two live keys of one place have its generation
  one_key : (key other : ℕ) → IsSome (finite.get (live_in places) key) → IsSome (finite.get (live_in places) other) → key % 2 ^ 32 ≡ other % 2 ^ 32
      → key ≡ other
  one_key key other live there same =
      let generations : key / 2 ^ 32 ≡ other / 2 ^ 32 = sym (at_place key live).of_it ∙ ap (λ n. (place_at places n).generation) same ∙ (at_place other there).of_it in
      omega (arith, generations, same, key_parts key, key_parts other)

  -- what is seen of the places
  abbrev pub seen : ℕ → SlotState T
  seen room = record (state places) { room = room }

  pub are_placed : (room : ℕ) → ArePlaced (seen room)
  are_placed room = record {
    within = λ key live.
        let within = (at_place key live).within in
        let as_many = length-map places (λ (p : Place T). p.generation) in
        omega (arith, within, as_many);
    alone = one_key;
  }

  -- so far no place had a value
  module _ (start at : ℕ) (empty : (j : ℕ) → start ≤ j → j < at → (place_at places j).value ≡ None) where
    not_between : (key : ℕ) → IsSome (finite.get (live_in places) key) → start ≤ key % 2 ^ 32 → key % 2 ^ 32 < at → ⊥
    not_between key live from below = no_value _ ((at_place key live).value ∙ empty (key % 2 ^ 32) from below) live

    pub none_from : length places ≤ at → (room : ℕ) → HasNoneFrom (seen room) start
    none_from ended room key live = elim (below_or_past (key % 2 ^ 32) start) [
      | inl below ↦ below
      | inr from ↦ let within = (at_place key live).within in absurd (not_between key live from (omega (arith, within, ended)))
    ]

    -- and this one has
    pub first_from : start ≤ at → at < length places → (p : Place T) → p ≡ place_at places at → IsSome p.value → 0 < p.generation → (room : ℕ)
        → IsFirstFrom (seen room) start (p.generation * 2 ^ 32 + at)
    first_from from within p is some begun room = record {
      never_zero = λ e. omega (arith, e, begun);
      live = live;
      from = omega (arith, parts, from);
      others = others;
    }
      where
        key : ℕ
        key = p.generation * 2 ^ 32 + at

        parts : key % 2 ^ 32 ≡ at
        parts = (parts_of p.generation at (omega (arith, within, few))).1

        live : IsSome (finite.get (live_in places) key)
        live = subst IsSome (sym (get_here places key p le (is ∙ ap (place_at places) (sym parts)) (sym (parts_of p.generation at (omega (arith, within, few))).0))) some

        others : (other : ℕ) → IsSome (finite.get (live_in places) other)
            → (other ≡ key) ⊎ ((other % 2 ^ 32 < start) ⊎ (key % 2 ^ 32 < other % 2 ^ 32))
        others other there = elim (below_or_past (other % 2 ^ 32) start) [
          | inl before ↦ inr (inl before)
          | inr behind ↦ elim (below_or_past (other % 2 ^ 32) at) [
            | inl below ↦ absurd (not_between other there behind below)
            | inr past ↦ elim (one_or_two (other % 2 ^ 32) at) [
              | inl same ↦ inl (one_key other key there live (same ∙ sym parts))
              | inr ne ↦ inr (inr (omega (arith, past, ne, parts)))
            ]
          ]
        ]
