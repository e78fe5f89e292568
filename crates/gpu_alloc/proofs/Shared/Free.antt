-- Free bytes: under other names of their chunks, and where their runs start and end.
use Rattle.std.proofs.Common.{◌≡◌, ℕ, ◌+◌, ◌<◌, sym, subst, arith, inl, inr, ◌-◌, ◌%◌, ◌∙◌, ap}
use Rattle.gpu_alloc_base.specs.FreeRuns.{AreFree, IsFreeRun, IsListPlace}
use Rattle.std.proofs.lemmas.Bool.{cases_eq, cases_lt}
use Rattle.std.proofs.lemmas.Nat.{pow_pos}
use Rattle.std.proofs.Math.Nat.{zero-mod}
use Rattle.gpu_alloc_base.specs.FreeSpace.{IsFreePiece, IsIn, IsMultipleOf, IsPlace}
use Rattle.gpu_alloc_base.proofs.FreeRuns.{run_stops}
use Rattle.gpu_alloc_base.proofs.Multiples.{mod_from_multiple, multiple_from_mod}
use Rattle.gpu_alloc_block.specs.State.{Span}

-- a place has a first byte
pub first_byte : (F : ℕ → ℕ → Type 0) (object start length : ℕ) → IsPlace F object start length → F object start
first_byte F object start length place = let some = pow_pos place.power.0 in place.free start (record { from = omega arith; to = omega (arith, some, place.power.1) })

-- Two descriptions that have other names for the same chunks.
pub record IsCopy (F G : ℕ → ℕ → Type 0) (name : ℕ → ℕ) : Type 0 where
  pub to : (key at : ℕ) → F key at → G (name key) at
  pub from : (object at : ℕ) → G object at → (key : ℕ) × (name key ≡ object) × F key at
  pub one : (key also at before : ℕ) → F key at → F also before → name key ≡ name also → key ≡ also

module _ {F G : ℕ → ℕ → Type 0} {name : ℕ → ℕ} (copy : IsCopy F G name) where
  pub range_to : (key start end : ℕ) → AreFree F key start end → AreFree G (name key) start end
  range_to key start end free at from below = copy.to key at (free at from below)

  -- back, for a chunk that has some free byte
  range_from : (key first : ℕ) → F key first → (start end : ℕ) → AreFree G (name key) start end → AreFree F key start end
  range_from key first some start end free at from below =
      let w = copy.from (name key) at (free at from below) in
      subst (λ k. F k at) (copy.one w.0 key at first w.2 some w.1) w.2

  -- a free run is one
  pub run_to : (key start end : ℕ) → IsFreeRun F key start end → IsFreeRun G (name key) start end
  run_to key start end run = record {
    nonempty = run.nonempty;
    free = range_to key start end run.free;
    longest = λ start' end' free. run.longest start' end' (range_from key start (run.free start (omega arith) run.nonempty) start' end' free);
  }

  pub run_from : (object start end : ℕ) → IsFreeRun G object start end → (key : ℕ) × (name key ≡ object) × IsFreeRun F key start end
  run_from object start end run =
      let first = copy.from object start (run.free start (omega arith) run.nonempty) in (
        first.0,
        first.1,
        record {
          nonempty = run.nonempty;
          free = range_from first.0 start first.2 start end (subst (λ o. AreFree G o start end) (sym first.1) run.free);
          longest = λ start' end' free. run.longest start' end' (subst (λ o. AreFree G o start' end') first.1 (range_to first.0 start' end' free));
        },
      )

  -- and so is room for a block
  module _ (size alignment : ℕ) where
    pub room_to : (key start : ℕ) × IsListPlace F size alignment key start → (object start : ℕ) × IsListPlace G size alignment object start
    room_to (key, start, place) = (name key, start, record { aligned = place.aligned; free = range_to key start (start + size) place.free })

    pub room_from : 0 < size → (object start : ℕ) × IsListPlace G size alignment object start → (key start : ℕ) × IsListPlace F size alignment key start
    room_from some (object, start, place) =
        let first = copy.from object start (place.free start (omega arith) (omega (arith, some))) in
        (first.0, start, record { aligned = place.aligned; free = range_from first.0 start first.2 start (start + size) (subst (λ o. AreFree G o start (start + size)) (sym first.1) place.free) })

  -- so are places, and the longest ones

  place_to : (key start length : ℕ) → IsPlace F key start length → IsPlace G (name key) start length
  place_to key start length place = record { power = place.power; aligned = place.aligned; free = λ at here. copy.to key at (place.free at here) }

  place_back : (key first : ℕ) → F key first → (start length : ℕ) → IsPlace G (name key) start length → IsPlace F key start length
  place_back key first some start length place =
      record { power = place.power; aligned = place.aligned; free = λ at here. range_from key first some start (start + length) (λ at from to. place.free at (record { from = from; to = to })) at here.from here.to }

  pub piece_to : (key start length : ℕ) → IsFreePiece F key start length → IsFreePiece G (name key) start length
  piece_to key start length piece = record {
    place = place_to key start length piece.place;
    longest = λ start' length' place. piece.longest start' length' (place_back key start (first_byte F key start length piece.place) start' length' place);
  }

  place_from : (object start length : ℕ) → IsPlace G object start length → (key : ℕ) × (name key ≡ object) × IsPlace F key start length
  place_from object start length place =
      let first = copy.from object start (first_byte G object start length place) in
      (first.0, first.1, place_back first.0 start first.2 start length (subst (λ o. IsPlace G o start length) (sym first.1) place))

  pub piece_from : (object start length : ℕ) → IsFreePiece G object start length → (key : ℕ) × (name key ≡ object) × IsFreePiece F key start length
  piece_from object start length piece =
      let w = place_from object start length piece.place in
      (w.0, w.1, record { place = w.2; longest = λ start' length' place. piece.longest start' length' (subst (λ o. IsPlace G o start' length') w.1 (place_to w.0 start' length' place)) })

  pub some_place_to : (length : ℕ) → (key start : ℕ) × IsPlace F key start length → (object start : ℕ) × IsPlace G object start length
  some_place_to length (key, start, place) = (name key, start, place_to key start length place)

  pub some_place_from : (length : ℕ) → (object start : ℕ) × IsPlace G object start length → (key start : ℕ) × IsPlace F key start length
  some_place_from length (object, start, place) = let w = place_from object start length place in (w.0, start, w.2)

-- a byte of the chunk x is free where it lies in it, and in none of its live spans
pub record AreFreeBeside (F : ℕ → ℕ → Type 0) (x counted : ℕ) (Has : Span → Type 0) : Type 0 where
  pub inside : (at : ℕ) → F x at → at < counted
  pub unused : (at : ℕ) → F x at → (span : Span) → Has span → IsIn span.offset span.size at → ⊥
  pub free : (at : ℕ) → at < counted → ((span : Span) → Has span → IsIn span.offset span.size at → ⊥) → F x at

module _ {F : ℕ → ℕ → Type 0} {x counted : ℕ} {Has : Span → Type 0} (beside : AreFreeBeside F x counted Has) (g start end : ℕ) (run : IsFreeRun F x start end) where
  -- where it did not start at a multiple, the byte before it would be free
  pub run_starts : ((span : Span) → Has span → IsMultipleOf g (span.offset + span.size)) → IsMultipleOf g start
  run_starts ends = elim (cases_lt 0 start) [
    | inr none ↦ multiple_from_mod g start (let zero : start ≡ 0 = omega (arith, none) in ap (λ n. n % g) zero ∙ zero-mod g)
    | inl some ↦ elim (cases_eq (start % g) 0) [
      | inl whole ↦ multiple_from_mod g start whole
      | inr odd ↦ absurd (
          let first = run.free start (omega arith) run.nonempty in
          let before : F x (start - 1) = beside.free (start - 1) (let in_chunk = beside.inside start first in omega (arith, in_chunk)) (λ span has at.
          let last_byte : span.offset + span.size ≡ start = elim (cases_lt start (span.offset + span.size)) [
            | inl over ↦ absurd (beside.unused start first span has (record { from = let from = at.from in omega (arith, from); to = over }))
            | inr up ↦ let to = at.to in omega (arith, up, to, some)
          ] in
          odd (mod_from_multiple g start (subst (IsMultipleOf g) last_byte (ends span has)))) in
          let all : AreFree F x (start - 1) end = λ at from to. elim (cases_lt at start) [
            | inl less ↦ subst (F x) (omega (arith, from, less)) before
            | inr more ↦ run.free at more to
          ] in
          let longest = (run.longest (start - 1) end all (omega arith) (omega arith)).0 in
          omega (arith, longest, some))
    ]
  ]

  -- and where it did not end at one, the byte after it
  pub run_ends : ((span : Span) → Has span → IsMultipleOf g span.offset) → IsMultipleOf g counted → IsMultipleOf g end
  run_ends starts whole = let some = run.nonempty in let last = run.free (end - 1) (omega (arith, some)) (omega (arith, some)) in elim (cases_lt end counted) [
    | inr past ↦ let same : counted ≡ end = (let inside = beside.inside (end - 1) last in omega (arith, past, inside, some)) in subst (IsMultipleOf g) same whole
    | inl inside ↦ elim (cases_eq (end % g) 0) [
      | inl none ↦ multiple_from_mod g end none
      | inr odd ↦ absurd (
          let behind : F x end = beside.free end inside (λ span has at.
          let first_byte : span.offset ≡ end = elim (cases_lt span.offset end) [
            | inl before ↦ absurd (beside.unused (end - 1) last span has (record { from = omega (arith, before); to = let to = at.to in omega (arith, to) }))
            | inr after ↦ let from = at.from in omega (arith, after, from)
          ] in
          odd (mod_from_multiple g end (subst (IsMultipleOf g) first_byte (starts span has)))) in
          run_stops F x start end run behind)
    ]
  ]
