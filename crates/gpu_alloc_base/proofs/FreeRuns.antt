-- Regions that are spaced, rise and cover what is free are exactly the free runs; their tails, and what joins and leaves them.
use Rattle.std.proofs.Common.{◌≡◌, ◌≢◌, ◌⊎◌, inl, inr, ℕ, ◌+◌, ◌-◌, ◌/◌, ◌<◌, ◌≤◌, List, length, Contains, get_or, refl, sym, ◌∙◌, ap, subst, arith}
use Rattle.std.proofs.lemmas.Bool.{cases_lt, cases_eq}
use Rattle.std.proofs.lemmas.List.{get_or_default}
use Rattle.gpu_alloc_base.specs.declared.region.FreeListRegion.{FreeListRegion}
use Rattle.gpu_alloc_base.specs.FreeRuns.{IsBefore, tail_start, HasRoom, AreFree, IsFreeRun, IsListPlace, IsSpaced, AreRising, Without, With, IsLastWithRoom}
use Rattle.gpu_alloc_base.proofs.Multiples.{down_below, multiple_below}

-- Tails.

-- a tail has room for its size
pub tail_below : (size alignment end : ℕ) → tail_start size alignment end ≤ end - size
tail_below size alignment end = down_below (end - size) alignment

-- and ends where its range does
pub tail_ends : (size alignment end : ℕ) → tail_start size alignment end + (end - tail_start size alignment end) ≡ end
tail_ends size alignment end = omega (arith, tail_below size alignment end)

-- Free ranges and regions.

-- the byte after a free run is not free
pub run_stops : (F : ℕ → ℕ → Type 0) (chunk start end : ℕ) → IsFreeRun F chunk start end → F chunk end → ⊥
run_stops F chunk start end run next =
    let longer = run.longest start (end + 1) (λ at from to. elim (cases_lt at end) [
      | inl lt ↦ run.free at from lt
      | inr ge ↦ let here : end ≡ at = omega (arith, ge, to) in subst (F chunk) here next
    ]) (omega arith) (omega arith) in
    omega (arith, longer.1)

module _ (F : ℕ → ℕ → Type 0) (Has : FreeListRegion → Type 0) (spaced : IsSpaced F Has) where
  -- a free range that is not empty lies in one region
  pub range_in : (chunk start end : ℕ) → start < end → AreFree F chunk start end → (r : FreeListRegion) × Has r × (r.chunk ≡ chunk) × (r.start ≤ start) × (end ≤ r.end)
  range_in chunk start end lt free =
      let first = spaced.covers chunk start (free start (omega arith) lt) in
      elim (cases_lt first.0.end end) [
        | inr long ↦ (first.0, first.1, first.2, first.3, long)
        | inl short ↦
            let next = spaced.covers chunk first.0.end (free first.0.end (omega (arith, first.4)) short) in
            let one = spaced.apart first.0 next.0 first.1 next.1 (first.2 ∙ sym next.2) (omega (arith, first.3, first.4, next.4)) next.3 in
            absurd (omega (arith, next.4, ap (λ (r : FreeListRegion). r.end) one))
      ]

  -- a region is a free run
  pub region_is_run : (r : FreeListRegion) → Has r → IsFreeRun F r.chunk r.start r.end
  region_is_run r has = record {
    nonempty = spaced.nonempty r has;
    free = spaced.free r has;
    longest = λ start end free from to.
        let in_one = range_in r.chunk start end (omega (arith, spaced.nonempty r has, from, to)) free in
        let one = spaced.apart in_one.0 r in_one.1 has in_one.2 (omega (arith, in_one.3, from, spaced.nonempty r has)) (omega (arith, in_one.4, to, spaced.nonempty r has)) in
        (omega (arith, from, in_one.3, ap (λ (q : FreeListRegion). q.start) one), omega (arith, to, in_one.4, ap (λ (q : FreeListRegion). q.end) one));
  }

  -- and a free run a region
  pub run_is_region : (r : FreeListRegion) → IsFreeRun F r.chunk r.start r.end → Has r
  run_is_region r run =
      let in_one = range_in r.chunk r.start r.end run.nonempty run.free in
      let same = run.longest in_one.0.start in_one.0.end (subst (λ k. AreFree F k in_one.0.start in_one.0.end) in_one.2 (spaced.free in_one.0 in_one.1)) in_one.3 in_one.4 in
      let one : in_one.0 ≡ r = λ k. record { chunk = in_one.2 k; start = same.0 k; end = same.1 k } in
      subst Has one in_one.1

  -- A place lies in a run with room, and a run with room has a place.

  pub place_has_run : (size alignment chunk start : ℕ) → 0 < size → 0 < alignment → IsListPlace F size alignment chunk start
      → (r : FreeListRegion) × Has r × (r.chunk ≡ chunk) × HasRoom size alignment r.start r.end
  place_has_run size alignment chunk start some positive place =
      let in_one = range_in chunk start (start + size) (omega (arith, some)) place.free in
      let r = in_one.0 in (
        r,
        in_one.1,
        in_one.2,
        record {
          enough = omega (arith, in_one.4);
          from = omega (arith, in_one.3, multiple_below (r.end - size) alignment start positive place.aligned (omega (arith, in_one.4)));
        },
      )

  pub run_has_place : (size alignment : ℕ) (r : FreeListRegion) → 0 < alignment → Has r → HasRoom size alignment r.start r.end → IsListPlace F size alignment r.chunk (tail_start size alignment r.end)
  run_has_place size alignment r positive has room =
      let below = down_below (r.end - size) alignment in
      record {
        aligned = ((r.end - size) / alignment, refl);
        free = λ at from to. spaced.free r has at (omega (arith, room.from, from)) (omega (arith, below, room.enough, to));
      }

-- Regions in a list that rises.

module _ (F : ℕ → ℕ → Type 0) (regions : List FreeListRegion) (spaced : IsSpaced F (Contains regions)) (rising : AreRising regions) where
  earlier : (r s : FreeListRegion) (has_r : Contains regions r) (has_s : Contains regions s) → has_r.0 < has_s.0 → IsBefore r s
  earlier r s has_r has_s lt =
      let before = rising has_r.0 has_s.0 r lt has_s.1 in
      subst (λ x. IsBefore r x) (get_or_default regions has_s.0 r s has_s.1 ∙ has_s.2) (subst (λ x. IsBefore x (get_or regions has_s.0 r)) has_r.2 before)

  -- the last region that has room is the last run that has
  pub last_is : (size alignment i : ℕ) (d : FreeListRegion) → i < length regions → HasRoom size alignment (get_or regions i d).start (get_or regions i d).end
      → ((j : ℕ) → i < j → j < length regions → HasRoom size alignment (get_or regions j d).start (get_or regions j d).end → ⊥) → IsLastWithRoom F size alignment (get_or regions i d)
  last_is size alignment i d lt room later =
      let own : Contains regions (get_or regions i d) = (i, lt, get_or_default regions i (get_or regions i d) d lt) in
      record {
        run = region_is_run F (Contains regions) spaced (get_or regions i d) own;
        room = room;
        last = λ s run has.
            let at = run_is_region F (Contains regions) spaced s run in
            let is : get_or regions at.0 d ≡ s = get_or_default regions at.0 d s at.1 ∙ at.2 in
            elim (cases_lt at.0 i) [
              | inl earlier_one ↦ inr (earlier s (get_or regions i d) at own earlier_one)
              | inr not_less ↦ elim (cases_lt i at.0) [
                | inl after ↦ absurd (later at.0 after at.1 (subst (λ r. HasRoom size alignment r.start r.end) (sym is) has))
                | inr not_more ↦
                    let here : at.0 ≡ i = omega (arith, not_less, not_more) in
                    inl (sym is ∙ ap (λ k. get_or regions k d) here)
              ]
            ];
      }

-- of two regions that are not empty, not each lies before the other
pub not_both : (r s : FreeListRegion) → r.start < r.end → s.start < s.end → IsBefore r s → IsBefore s r → ⊥
not_both r s some_r some_s (inl lt) (inl gt) = omega (arith, lt, gt)
not_both r s some_r some_s (inl lt) (inr after) = omega (arith, lt, after.0)
not_both r s some_r some_s (inr before) (inl gt) = omega (arith, gt, before.0)
not_both r s some_r some_s (inr before) (inr after) = omega (arith, some_r, some_s, before.1, after.1)

-- nor one before itself
pub not_before_itself : (r : FreeListRegion) → r.start < r.end → IsBefore r r → ⊥
not_before_itself r some before = not_both r r some some before before

-- two regions are one or not
same_region : (q r : FreeListRegion) → (q ≡ r) ⊎ (q ≢ r)
same_region q r = elim (cases_eq q.chunk r.chunk) [
  | inr other ↦ inr (λ one. other (ap (λ (x : FreeListRegion). x.chunk) one))
  | inl chunk ↦ elim (cases_eq q.start r.start) [
    | inr other ↦ inr (λ one. other (ap (λ (x : FreeListRegion). x.start) one))
    | inl start ↦ elim (cases_eq q.end r.end) [
      | inr other ↦ inr (λ one. other (ap (λ (x : FreeListRegion). x.end) one))
      | inl end ↦ inl (λ k. record { chunk = chunk k; start = start k; end = end k })
    ]
  ]
]

-- What a grant and a return make of the regions.

-- the regions of one list are those of another but for one, in whose place another stands
pub record IsReplaced (Has Has' : FreeListRegion → Type 0) (old new : FreeListRegion) : Type 0 where
  pub kept : (r : FreeListRegion) → Has r → r ≢ old → Has' r
  pub added : Has' new
  pub cases : (r : FreeListRegion) → Has' r → (r ≡ new) ⊎ (Has r × (r ≢ old))

module _ (F : ℕ → ℕ → Type 0) (Has Has' : FreeListRegion → Type 0) (spaced : IsSpaced F Has) (r : FreeListRegion) (has : Has r) (cut : ℕ) where
  abbrev tail : FreeListRegion
  tail = record { chunk = r.chunk; start = cut; end = r.end }

  abbrev rest : FreeListRegion
  rest = record { chunk = r.chunk; start = r.start; end = cut }

  -- the tail of a region is taken, and some of it is left
  pub tail_taken : r.start < cut → cut < r.end → IsReplaced Has Has' r rest → IsSpaced (Without F tail) Has'
  tail_taken from to replaced = record {
    nonempty = λ x is. elim (replaced.cases x is) [
      | inl new ↦ omega (arith, from, ap (λ (q : FreeListRegion). q.start) new, ap (λ (q : FreeListRegion). q.end) new)
      | inr old ↦ spaced.nonempty x old.0
    ];
    apart = λ x y is_x is_y same le ge. elim (replaced.cases x is_x) [
      | inl new_x ↦ elim (replaced.cases y is_y) [
        | inl new_y ↦ new_x ∙ sym new_y
        | inr old_y ↦ absurd (old_y.1 (sym (beside y old_y.0 (sym same ∙ ap (λ (q : FreeListRegion). q.chunk) new_x) (omega (arith, le, ap (λ (q : FreeListRegion). q.start) new_x)) (omega (arith, ge, to, ap (λ (q : FreeListRegion). q.end) new_x)))))
      ]
      | inr old_x ↦ elim (replaced.cases y is_y) [
        | inl new_y ↦ absurd (old_x.1 (sym (beside x old_x.0 (same ∙ ap (λ (q : FreeListRegion). q.chunk) new_y) (omega (arith, ge, ap (λ (q : FreeListRegion). q.start) new_y)) (omega (arith, le, to, ap (λ (q : FreeListRegion). q.end) new_y)))))
        | inr old_y ↦ spaced.apart x y old_x.0 old_y.0 same le ge
      ]
    ];
    free = λ x is at low high. elim (replaced.cases x is) [
      | inl new ↦
          let chunk = ap (λ (q : FreeListRegion). q.chunk) new in
          let start = ap (λ (q : FreeListRegion). q.start) new in
          let end = ap (λ (q : FreeListRegion). q.end) new in
          (subst (λ c. F c at) (sym chunk) (spaced.free r has at (omega (arith, low, start)) (omega (arith, high, end, to))), λ same from_cut below. absurd (omega (arith, high, end, from_cut)))
      | inr old ↦ (spaced.free x old.0 at low high, λ same from_cut below. old.1 (sym (beside x old.0 same (omega (arith, high, from_cut, from)) (omega (arith, low, below)))))
    ];
    covers = λ chunk at free.
        let q = spaced.covers chunk at free.0 in
        elim (same_region q.0 r) [
          | inl one ↦
              let inside = ap (λ (x : FreeListRegion). x.chunk) (sym one) ∙ q.2 in
              elim (cases_lt at cut) [
                | inl low ↦ (rest, replaced.added, inside, omega (arith, q.3, ap (λ (x : FreeListRegion). x.start) one), low)
                | inr high ↦ absurd (free.1 (sym inside) high (omega (arith, q.4, ap (λ (x : FreeListRegion). x.end) one)))
              ]
          | inr other ↦ (q.0, replaced.kept q.0 q.1 other, q.2, q.3, q.4)
        ];
  }
    where
      -- a region of that chunk which overlaps or touches it is it
      beside : (y : FreeListRegion) → Has y → y.chunk ≡ r.chunk → r.start ≤ y.end → y.start ≤ r.end → r ≡ y
      beside y is same le ge = spaced.apart r y has is (sym same) le ge

-- a region is taken whole
pub taken_whole : (F : ℕ → ℕ → Type 0) (Has Has' : FreeListRegion → Type 0) → IsSpaced F Has → (r : FreeListRegion) → Has r → ((x : FreeListRegion) → Has x → x ≢ r → Has' x) → ((x : FreeListRegion) → Has' x → Has x × (x ≢ r)) → IsSpaced (Without F r) Has'
taken_whole F Has Has' spaced r has kept cases = record {
  nonempty = λ x is. spaced.nonempty x (cases x is).0;
  apart = λ x y is_x is_y. spaced.apart x y (cases x is_x).0 (cases y is_y).0;
  free = λ x is at low high.
      let old = cases x is in
      (spaced.free x old.0 at low high, λ same from below. old.1 (spaced.apart x r old.0 has same (omega (arith, low, below)) (omega (arith, from, high))));
  covers = λ chunk at free.
      let q = spaced.covers chunk at free.0 in
      elim (same_region q.0 r) [
        | inl one ↦
            let inside = sym q.2 ∙ ap (λ (x : FreeListRegion). x.chunk) one in
            absurd (free.1 inside (omega (arith, q.3, ap (λ (x : FreeListRegion). x.start) one)) (omega (arith, q.4, ap (λ (x : FreeListRegion). x.end) one)))
        | inr other ↦ (q.0, kept q.0 q.1 other, q.2, q.3, q.4)
      ];
}

-- The two overlap, or one begins where the other ends.
pub record Touches (r s : FreeListRegion) : Type 0 where
  pub chunk : r.chunk ≡ s.chunk
  pub low : r.start ≤ s.end
  pub high : s.start ≤ r.end

touches_or_not : (r s : FreeListRegion) → Touches r s ⊎ (Touches r s → ⊥)
touches_or_not r s = elim (cases_eq r.chunk s.chunk) [
  | inr other ↦ inr (λ t. other t.chunk)
  | inl chunk ↦ elim (cases_lt s.end r.start) [
    | inl lt ↦ inr (λ t. omega (arith, lt, t.low))
    | inr low ↦ elim (cases_lt r.end s.start) [
      | inl lt ↦ inr (λ t. omega (arith, lt, t.high))
      | inr high ↦ inl (record { chunk = chunk; low = low; high = high })
    ]
  ]
]

-- A range comes back, and is joined with the regions that touch it.
pub record IsJoined (F : ℕ → ℕ → Type 0) (Has Has' : FreeListRegion → Type 0) (x new : FreeListRegion) : Type 0 where
  pub chunk : new.chunk ≡ x.chunk
  pub from : new.start ≤ x.start
  pub to : x.end ≤ new.end
  pub swallowed : (r : FreeListRegion) → Has r → Touches r new → (new.start ≤ r.start) × (r.end ≤ new.end)
  pub made : (at : ℕ) → new.start ≤ at → at < new.end → With F x new.chunk at
  pub kept : (r : FreeListRegion) → Has r → (Touches r new → ⊥) → Has' r
  pub added : Has' new
  pub cases : (r : FreeListRegion) → Has' r → (r ≡ new) ⊎ (Has r × (Touches r new → ⊥))

pub joined : (F : ℕ → ℕ → Type 0) (Has Has' : FreeListRegion → Type 0) (x new : FreeListRegion) → IsSpaced F Has → x.start < x.end → IsJoined F Has Has' x new → IsSpaced (With F x) Has'
joined F Has Has' x new spaced some j = record {
  nonempty = λ r is. elim (j.cases r is) [
    | inl one ↦ omega (arith, some, j.from, j.to, ap (λ (q : FreeListRegion). q.start) one, ap (λ (q : FreeListRegion). q.end) one)
    | inr old ↦ spaced.nonempty r old.0
  ];
  apart = λ r s is_r is_s same le ge. elim (j.cases r is_r) [
    | inl one_r ↦ elim (j.cases s is_s) [
      | inl one_s ↦ one_r ∙ sym one_s
      | inr old_s ↦ absurd (old_s.1 (subst (λ q. Touches s q) one_r (record { chunk = sym same; low = ge; high = le })))
    ]
    | inr old_r ↦ elim (j.cases s is_s) [
      | inl one_s ↦ absurd (old_r.1 (subst (λ q. Touches r q) one_s (record { chunk = same; low = le; high = ge })))
      | inr old_s ↦ spaced.apart r s old_r.0 old_s.0 same le ge
    ]
  ];
  free = λ r is at low high. elim (j.cases r is) [
    | inl one ↦
        subst (λ c. With F x c at) (sym (ap (λ (q : FreeListRegion). q.chunk) one))
        (j.made at (omega (arith, low, ap (λ (q : FreeListRegion). q.start) one)) (omega (arith, high, ap (λ (q : FreeListRegion). q.end) one)))
    | inr old ↦ inl (spaced.free r old.0 at low high)
  ];
  covers = λ chunk at free. elim (free) [
    | inl was ↦
        let q = spaced.covers chunk at was in
        elim (touches_or_not q.0 new) [
          | inl t ↦
              let in_new = j.swallowed q.0 q.1 t in
              (new, j.added, sym t.chunk ∙ q.2, omega (arith, in_new.0, q.3), omega (arith, in_new.1, q.4))
          | inr not ↦ (q.0, j.kept q.0 q.1 not, q.2, q.3, q.4)
        ]
    | inr back ↦ (new, j.added, j.chunk ∙ sym back.0, omega (arith, j.from, back.1), omega (arith, j.to, back.2))
  ];
}
