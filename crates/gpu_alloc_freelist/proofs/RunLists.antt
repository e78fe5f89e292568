-- The list of the free runs, as one loses its tail or is removed whole, and as a block is joined with its neighbours.
use Rattle.std.proofs.Common.{◌≡◌, ◌≢◌, ◌⊎◌, inl, inr, ℕ, suc, ◌+◌, ◌-◌, ◌<◌, ◌≤◌, List, ◌∷◌, ◌++◌, length, take, drop, set, get_or, refl, sym, ◌∙◌, ap, subst, arith}
use Rattle.std.specs.List.{Contains, remove}
use Rattle.std.proofs.lemmas.Bool.{cases_lt, cases_eq, cases_order}
use Rattle.std.proofs.lemmas.List.{length-append, length-take-le, length-drop, get_or_append_left, get_or-take, get_or_at, get_or-append-add, get_or-drop, get_or_default, set_split}
use Rattle.std.proofs.lemmas.List.Edits.{length-remove, get_or-remove_below, get_or-remove_above}
use Rattle.std.proofs.lemmas.List.Quantifiers.{all_pairs_remove}
use Rattle.std.proofs.lemmas.List.Elements.{Contains-get_or}
use Rattle.gpu_alloc_freelist.specs.Runs.{IsJoint, StartsBefore}
use Rattle.gpu_alloc_base.specs.FreeRuns.{IsBefore, AreRising, Without, With, AreRuns, AreRunsBeside}
use Rattle.gpu_alloc_base.specs.declared.region.FreeListRegion.{FreeListRegion}
use Rattle.gpu_alloc_base.proofs.FreeRuns.{Touches, IsJoined, tail_taken, taken_whole, joined, not_before_itself}
use Rattle.gpu_alloc_base.proofs.SameRuns.{spaced_same}

-- One element stands in place of those from one index on to before another.

module _ {X : Type 0} (xs : List X) (from to : ℕ) (y : X) (low : from ≤ to) (high : to ≤ length xs) where
  abbrev spliced : List X
  spliced = take from xs ++ y ∷ drop to xs

  length_front : length (take from xs) ≡ from
  length_front = length-take-le from xs (omega arith)

  pub length_spliced : length spliced + to ≡ from + 1 + length xs
  length_spliced = omega (arith, length-append (take from xs) (y ∷ drop to xs), length_front, length-drop to xs)

  at_front : (k : ℕ) (d : X) → k < from → get_or spliced k d ≡ get_or xs k d
  at_front k d lt = get_or_append_left (take from xs) (y ∷ drop to xs) d k (omega (arith, length_front)) ∙ get_or-take from xs k d lt

  at_new : (d : X) → get_or spliced from d ≡ y
  at_new d = get_or_at (take from xs) y (drop to xs) d from length_front

  at_back : (k m : ℕ) (d : X) → k ≡ from + 1 + m → get_or spliced k d ≡ get_or xs (to + m) d
  at_back k m d is =
      let there : k ≡ length (take from xs) + suc m = omega (arith, is, length_front) in
      ap (λ n. get_or spliced n d) there ∙ get_or-append-add (take from xs) (y ∷ drop to xs) (suc m) d ∙ get_or-drop to xs m d

  -- the new element is in it
  pub spliced_new : Contains spliced y
  spliced_new = (from, omega (arith, length_spliced), at_new y)

  -- one that stood before or after is kept
  pub spliced_kept : (r : X) (k : ℕ) → k < length xs → (k < from) ⊎ (to ≤ k) → get_or xs k r ≡ r → Contains spliced r
  spliced_kept r k lt (inl before) is = (k, omega (arith, length_spliced), at_front k r before ∙ is)
  spliced_kept r k lt (inr after) is =
      let there : to + (k - to) ≡ k = omega arith in
      (from + 1 + (k - to), omega (arith, length_spliced), at_back (from + 1 + (k - to)) (k - to) r refl ∙ ap (λ n. get_or xs n r) there ∙ is)

  -- and there is no other
  pub spliced_cases : (r : X) → Contains spliced r → (r ≡ y) ⊎ ((k : ℕ) × (k < length xs) × ((k < from) ⊎ (to ≤ k)) × (get_or xs k r ≡ r))
  spliced_cases r (k, lt, is) = elim (cases_order k from) [
    | inl here ↦ inl (sym is ∙ ap (λ n. get_or spliced n r) here ∙ at_new r)
    | inr (inl before) ↦ inr (k, omega arith, inl before, sym (at_front k r before) ∙ is)
    | inr (inr after) ↦ inr (to + (k - from - 1), omega (arith, length_spliced), inr (omega arith), sym (at_back k (k - from - 1) r (omega arith)) ∙ is)
  ]

-- One element is removed.

module _ {X : Type 0} (xs : List X) (i : ℕ) (within : i < length xs) where
  -- any other is kept
  pub removed_kept : (r : X) (k : ℕ) → k < length xs → k ≢ i → get_or xs k r ≡ r → Contains (remove xs i) r
  removed_kept r k lt other is = elim (cases_lt k i) [
    | inl before ↦ (k, omega (arith, length-remove xs i within), get_or-remove_below xs i r k before within ∙ is)
    | inr after ↦
        let there : (k - 1) + 1 ≡ k = omega (arith, other) in
        (k - 1, omega (arith, length-remove xs i within, there), get_or-remove_above xs i r (k - 1) (omega (arith, other)) within ∙ ap (λ n. get_or xs n r) there ∙ is)
  ]

  -- and there is no other
  pub removed_cases : (r : X) → Contains (remove xs i) r → (k : ℕ) × (k < length xs) × (k ≢ i) × (get_or xs k r ≡ r)
  removed_cases r (k, lt, is) = elim (cases_lt k i) [
    | inl before ↦ (k, omega arith, (λ e. omega arith), sym (get_or-remove_below xs i r k before within) ∙ is)
    | inr after ↦ (k + 1, omega (arith, length-remove xs i within), (λ e. omega arith), sym (get_or-remove_above xs i r k after within) ∙ is)
  ]

-- Lists that rise.

rises_at : (r s r' s' : FreeListRegion) → r' ≡ r → s' ≡ s → IsBefore r s → IsBefore r' s'
rises_at r s r' s' e f before = subst (λ q. IsBefore q s') (sym e) (subst (λ q. IsBefore r q) (sym f) before)

pub rising_spliced : (xs : List FreeListRegion) (from to : ℕ) (y : FreeListRegion) → from ≤ to → to ≤ length xs → AreRising xs
    → ((k : ℕ) (d : FreeListRegion) → k < from → IsBefore (get_or xs k d) y)
    → ((k : ℕ) (d : FreeListRegion) → to ≤ k → k < length xs → IsBefore y (get_or xs k d))
    → AreRising (take from xs ++ y ∷ drop to xs)
rising_spliced xs from to y low high rising before after i j d lt within =
    let n = length_spliced xs from to y low high in
    let front = at_front xs from to y low high in
    let new = at_new xs from to y low high in
    let back = at_back xs from to y low high in
    elim (cases_order j from) [
      | inl here ↦ rises_at _ _ _ _ (front i d (omega arith)) (ap (λ k. get_or (take from xs ++ y ∷ drop to xs) k d) here ∙ new d) (before i d (omega arith))
      | inr (inl early) ↦ rises_at _ _ _ _ (front i d (omega arith)) (front j d early) (rising i j d lt (omega arith))
      | inr (inr late) ↦
          let at_j = back j (j - from - 1) d (omega arith) in
          let within_j : to + (j - from - 1) < length xs = omega (arith, n) in
          elim (cases_order i from) [
            | inl here ↦ rises_at _ _ _ _ (ap (λ k. get_or (take from xs ++ y ∷ drop to xs) k d) here ∙ new d) at_j (after (to + (j - from - 1)) d (omega arith) within_j)
            | inr (inl early_i) ↦ rises_at _ _ _ _ (front i d early_i) at_j (rising i (to + (j - from - 1)) d (omega arith) within_j)
            | inr (inr late_i) ↦ rises_at _ _ _ _ (back i (i - from - 1) d (omega arith)) at_j (rising (to + (i - from - 1)) (to + (j - from - 1)) d (omega arith) within_j)
          ]
    ]

-- one of them lies before the other with bytes between, so they do not touch
apart_before : (r s : FreeListRegion) → IsBefore r s → Touches r s → ⊥
apart_before r s (inl chunk) t = omega (arith, chunk, t.chunk)
apart_before r s (inr same) t = omega (arith, same.1, t.high)

apart_after : (r s : FreeListRegion) → IsBefore s r → Touches r s → ⊥
apart_after r s (inl chunk) t = omega (arith, chunk, t.chunk)
apart_after r s (inr same) t = omega (arith, same.1, t.low)

-- A run loses its tail, or is removed whole.

module _ (F : ℕ → ℕ → Type 0) (regions : List FreeListRegion) (i : ℕ) (d : FreeListRegion) (runs : AreRuns regions F) (within : i < length regions) where
  abbrev r : FreeListRegion
  r = get_or regions i d

  has : Contains regions r
  has = Contains-get_or regions i d within

  -- no region stands at two places
  one_place : (k : ℕ) (q : FreeListRegion) → k < length regions → get_or regions k q ≡ q → q ≡ r → k ≡ i
  one_place k q lt is one =
      let some = runs.spaced.nonempty r has in
      let at_k : get_or regions k d ≡ r = get_or_default regions k d q lt ∙ is ∙ one in
      elim (cases_order k i) [
        | inl here ↦ here
        | inr (inl early) ↦ absurd (not_before_itself r some (subst (λ x. IsBefore x r) at_k (runs.rising k i d early within)))
        | inr (inr late) ↦ absurd (not_before_itself r some (subst (λ x. IsBefore r x) at_k (runs.rising i k d late lt)))
      ]

  -- what stands at another place is another region
  other_place : (k : ℕ) (q : FreeListRegion) → k < length regions → get_or regions k q ≡ q → k ≢ i → q ≢ r
  other_place k q lt is other one = other (one_place k q lt is one)

  -- another region stands at another place
  other_region : (k : ℕ) (q : FreeListRegion) → get_or regions k q ≡ q → q ≢ r → k ≢ i
  other_region k q is other here = other (sym is ∙ ap (λ n. get_or regions n q) here ∙ get_or_default regions i q d within)

  -- a run is taken whole
  pub run_goes : AreRunsBeside (remove regions i) F r
  run_goes = record {
    rest = record {
      spaced = taken_whole F (Contains regions) (Contains (remove regions i)) runs.spaced r has
          (λ q (k, lt, at) other. removed_kept regions i within q k lt (other_region k q at other) at)
          (λ q in_rest. let old = removed_cases regions i within q in_rest in ((old.0, old.1, old.3), other_place old.0 q old.1 old.3 old.2));
      rising = all_pairs_remove IsBefore regions i within runs.rising;
    };
    inside = runs.spaced.free r has;
  }

  module _ (cut : ℕ) where
    abbrev front : FreeListRegion
    front = record { chunk = r.chunk; start = r.start; end = cut }

    abbrev tail : FreeListRegion
    tail = record { chunk = r.chunk; start = cut; end = r.end }

    -- the tail of a run is taken, and some of it is left
    pub tail_goes : r.start < cut → cut < r.end → AreRunsBeside (set regions i front) F tail
    tail_goes from to =
        let is = set_split regions i front within in
        let next : i ≤ suc i = omega arith in
        let end : suc i ≤ length regions = omega (arith, within) in
        subst (λ list. AreRunsBeside list F tail) (sym is) (record {
          rest = record {
            spaced = tail_taken F (Contains regions) (Contains (take i regions ++ front ∷ drop (suc i) regions)) runs.spaced r has cut from to (record {
              kept = λ q (k, lt, at) other. spliced_kept regions i (suc i) front next end q k lt (beside k (other_region k q at other)) at;
              added = spliced_new regions i (suc i) front next end;
              cases = λ q in_new. elim (spliced_cases regions i (suc i) front next end q in_new) [
                | inl new ↦ inl new
                | inr old ↦ inr ((old.0, old.1, old.3), other_place old.0 q old.1 old.3 (not_here old.0 old.2))
              ];
            });
            rising = rising_spliced regions i (suc i) front next end runs.rising
                (λ k e lt. starts_same (get_or regions k e) (subst (λ x. IsBefore (get_or regions k e) x) (get_or_default regions i e d within) (runs.rising k i e lt within)))
                (λ k e lt in_list. ends_sooner (get_or regions k e) from to (subst (λ x. IsBefore x (get_or regions k e)) (get_or_default regions i e d within) (runs.rising i k e (omega (arith, lt)) in_list)));
          };
          inside = λ at low high. runs.spaced.free r has at (omega (arith, from, low)) high;
        })
      where
        beside : (k : ℕ) → k ≢ i → (k < i) ⊎ (suc i ≤ k)
        beside k other = elim (cases_lt k i) [ inl lt ↦ inl lt | inr ge ↦ inr (omega (arith, other)) ]

        not_here : (k : ℕ) → (k < i) ⊎ (suc i ≤ k) → k ≢ i
        not_here k (inl lt) here = omega (arith, lt, here)
        not_here k (inr gt) here = omega (arith, gt, here)

        starts_same : (q : FreeListRegion) → IsBefore q r → IsBefore q front
        starts_same q (inl chunk) = inl chunk
        starts_same q (inr same) = inr same

        ends_sooner : (q : FreeListRegion) → r.start < cut → cut < r.end → IsBefore r q → IsBefore front q
        ends_sooner q from to (inl chunk) = inl chunk
        ends_sooner q from to (inr same) = inr (same.0, omega (arith, to, same.1))

    -- a run is taken from its start on
    pub whole_goes : cut ≡ r.start → AreRunsBeside (remove regions i) F tail
    whole_goes is = subst (AreRunsBeside (remove regions i) F) (λ k. record { chunk = r.chunk; start = sym is k; end = r.end }) run_goes
    -- The same by what was read at that place.

-- A block comes back.

-- the first ends before the second or where it starts, or is of an earlier chunk
abbrev EndsBefore : FreeListRegion → FreeListRegion → Type 0
EndsBefore r x = (r.chunk < x.chunk) ⊎ ((r.chunk ≡ x.chunk) × (r.end ≤ x.start))

ends_before : (r s x : FreeListRegion) → IsBefore r s → s.start < s.end → EndsBefore s x → IsBefore r x
ends_before r s x (inl a) some (inl b) = inl (omega (arith, a, b))
ends_before r s x (inl a) some (inr b) = inl (omega (arith, a, b.0))
ends_before r s x (inr a) some (inl b) = inl (omega (arith, a.0, b))
ends_before r s x (inr a) some (inr b) = inr (a.0 ∙ b.0, omega (arith, a.1, b.1, some))

starts_after : (r s x : FreeListRegion) → EndsBefore x s → s.start < s.end → IsBefore s r → IsBefore x r
starts_after r s x (inl a) some (inl b) = inl (omega (arith, a, b))
starts_after r s x (inl a) some (inr b) = inl (omega (arith, a, b.0))
starts_after r s x (inr a) some (inl b) = inl (omega (arith, a.0, b))
starts_after r s x (inr a) some (inr b) = inr (a.0 ∙ b.0, omega (arith, a.1, b.1, some))

-- only the start of the later one tells, and only the end of the earlier one
before_start : (r s x : FreeListRegion) → s.chunk ≡ x.chunk → s.start ≡ x.start → IsBefore r s → IsBefore r x
before_start r s x chunk start (inl a) = inl (omega (arith, a, chunk))
before_start r s x chunk start (inr a) = inr (a.0 ∙ chunk, omega (arith, a.1, start))

after_end : (r s x : FreeListRegion) → s.chunk ≡ x.chunk → s.end ≡ x.end → IsBefore s r → IsBefore x r
after_end r s x chunk end (inl a) = inl (omega (arith, a, chunk))
after_end r s x chunk end (inr a) = inr (sym chunk ∙ a.0, omega (arith, a.1, end))

-- two that do not touch have bytes between them
not_touching : (r x : FreeListRegion) → EndsBefore r x → (r.chunk ≡ x.chunk → r.end ≡ x.start → ⊥) → IsBefore r x
not_touching r x (inl a) apart = inl a
not_touching r x (inr a) apart = inr (a.0, omega (arith, a.1, apart a.0))

-- Between which runs the joint stands.
module _ (regions : List FreeListRegion) (place : ℕ) (x d : FreeListRegion) (from to : ℕ) (joint : FreeListRegion) (j : IsJoint regions place x d from to joint) (within : place ≤ length regions) where
  joint_low : from ≤ place
  joint_low = elim (j.before) [ inl touch ↦ omega (arith, touch.1.0) | inr alone ↦ omega (arith, alone.1.0) ]

  joint_high : place ≤ to
  joint_high = elim (j.after) [ inl touch ↦ omega (arith, touch.1.0) | inr alone ↦ omega (arith, alone.1.0) ]

  pub joint_order : from ≤ to
  joint_order = omega (arith, joint_low, joint_high)

  -- it stands in place of two at most
  pub joint_two : to ≤ from + 2
  joint_two = elim (j.before) [
    | inl touch ↦ elim (j.after) [ inl also ↦ omega (arith, touch.1.0, also.1.0) | inr end ↦ omega (arith, touch.1.0, end.1.0) ]
    | inr alone ↦ elim (j.after) [ inl also ↦ omega (arith, alone.1.0, also.1.0) | inr end ↦ omega (arith, alone.1.0, end.1.0) ]
  ]

  pub joint_within : to ≤ length regions
  joint_within = elim (j.after) [ inl touch ↦ omega (arith, touch.0.0, touch.1.0) | inr alone ↦ omega (arith, alone.1.0, within) ]

  -- there is at most one more
  pub joint_length : length (take from regions ++ joint ∷ drop to regions) ≤ length regions + 1
  joint_length = omega (arith, length_spliced regions from to joint joint_order joint_within, joint_order)

module _ (F : ℕ → ℕ → Type 0) (regions : List FreeListRegion) (x : FreeListRegion) (beside : AreRunsBeside regions F x) (some : x.start < x.end)
    (place : ℕ) (before : (k : ℕ) (d : FreeListRegion) → k < place → StartsBefore (get_or regions k d) x)
    (here : (d : FreeListRegion) → place < length regions → StartsBefore (get_or regions place d) x → ⊥) (within : place ≤ length regions) (d : FreeListRegion) where
  abbrev at : ℕ → FreeListRegion
  at k = get_or regions k d

  in_list : (k : ℕ) → k < length regions → Contains regions (at k)
  in_list k lt = Contains-get_or regions k d lt

  nonempty : (k : ℕ) → k < length regions → (at k).start < (at k).end
  nonempty k lt = beside.rest.spaced.nonempty (at k) (in_list k lt)

  -- a region has no byte of the block
  no_byte : (k : ℕ) → k < length regions → (at k).chunk ≡ x.chunk → (b : ℕ) → (at k).start ≤ b → b < (at k).end → x.start ≤ b → b < x.end → ⊥
  no_byte k lt chunk b low high from to = (beside.rest.spaced.free (at k) (in_list k lt) b low high).1 chunk from to

  -- the regions before the place end before the block
  ends : (k : ℕ) → k < place → EndsBefore (at k) x
  ends k lt =
      let lt_all : k < length regions = omega (arith, within) in
      elim (before k d lt) [
        | inl chunk ↦ inl chunk
        | inr same ↦ elim (cases_lt x.start (at k).end) [
          | inr le ↦ inr (same.0, le)
          | inl long ↦ absurd (no_byte k lt_all same.0 x.start (omega (arith, same.1)) long (omega arith) some)
        ]
      ]

  -- the one at the place begins after it
  begins_here : place < length regions → EndsBefore x (at place)
  begins_here lt = elim (cases_order (at place).chunk x.chunk) [
    | inr (inl less) ↦ absurd (here d lt (inl less))
    | inr (inr more) ↦ inl more
    | inl same ↦ elim (cases_lt (at place).start x.start) [
      | inl less ↦ absurd (here d lt (inr (same, less)))
      | inr not_less ↦ elim (cases_lt (at place).start x.end) [
        | inr le ↦ inr (sym same, le)
        | inl short ↦ absurd (no_byte place lt same (at place).start (omega arith) (nonempty place lt) not_less short)
      ]
    ]
  ]

  -- a region two or more places before lies before the block
  lies_before : (k : ℕ) → k + 1 < place → IsBefore (at k) x
  lies_before k lt =
      let last : place - 1 < length regions = omega (arith, within) in
      ends_before (at k) (at (place - 1)) x (beside.rest.rising k (place - 1) d (omega arith) last) (nonempty (place - 1) last) (ends (place - 1) (omega arith))

  -- and one after the place lies after the block
  lies_after : (k : ℕ) → place < k → k < length regions → IsBefore x (at k)
  lies_after k lt lt_all = starts_after (at k) (at place) x (begins_here (omega arith)) (nonempty place (omega arith)) (beside.rest.rising place k d lt lt_all)

  module _ (from to : ℕ) (joint : FreeListRegion) (j : IsJoint regions place x d from to joint) where
    low : from ≤ place
    low = joint_low regions place x d from to joint j within

    order : from ≤ to
    order = joint_order regions place x d from to joint j within

    high : to ≤ length regions
    high = joint_within regions place x d from to joint j within

    starts_low : joint.start ≤ x.start
    starts_low = elim (j.before) [
      | inl touch ↦ omega (arith, touch.1.1, touch.0.1.1, nonempty (place - 1) (omega (arith, touch.0.0, within)))
      | inr alone ↦ omega (arith, alone.1.1)
    ]

    ends_high : x.end ≤ joint.end
    ends_high = elim (j.after) [
      | inl touch ↦ omega (arith, touch.1.1, touch.0.1.1, nonempty place touch.0.0)
      | inr alone ↦ omega (arith, alone.1.1)
    ]

    -- the regions that stay lie before the joint, or after it
    front_stays : (k : ℕ) → k < from → IsBefore (at k) joint
    front_stays k lt = elim (j.before) [
      | inl touch ↦
          before_start (at k) (at (place - 1)) joint (touch.0.1.0 ∙ sym j.chunk) (sym touch.1.1)
          (beside.rest.rising k (place - 1) d (omega (arith, touch.1.0)) (omega (arith, touch.0.0, within)))
      | inr alone ↦
          before_start (at k) x joint (sym j.chunk) (sym alone.1.1)
          (elim (cases_eq (k + 1) place) [
            | inl last ↦
                let is : place - 1 ≡ k = omega arith in
                not_touching (at k) x (ends k (omega arith)) (λ chunk end. alone.0 (omega arith, (ap (λ n. (at n).chunk) is ∙ chunk, ap (λ n. (at n).end) is ∙ end)))
            | inr other ↦ lies_before k (omega (arith, lt, alone.1.0, other))
          ])
    ]

    back_stays : (k : ℕ) → to ≤ k → k < length regions → IsBefore joint (at k)
    back_stays k le lt = elim (j.after) [
      | inl touch ↦
          after_end (at k) (at place) joint (touch.0.1.0 ∙ sym j.chunk) (sym touch.1.1)
          (beside.rest.rising place k d (omega (arith, touch.1.0)) lt)
      | inr alone ↦
          after_end (at k) x joint (sym j.chunk) (sym alone.1.1)
          (elim (cases_eq place k) [
            | inl first ↦ not_touching x (at k) (subst (λ n. EndsBefore x (at n)) first (begins_here (omega arith))) (λ chunk end. alone.0 (omega arith, (ap (λ n. (at n).chunk) first ∙ sym chunk, ap (λ n. (at n).start) first ∙ sym end)))
            | inr other ↦ lies_after k (omega (arith, le, alone.1.0, other)) lt
          ])
    ]

    -- those in between lie in it
    swallows : (k : ℕ) → from ≤ k → k < to → (at k).chunk ≡ joint.chunk × (joint.start ≤ (at k).start) × ((at k).end ≤ joint.end)
    swallows k ge lt = elim (cases_lt k place) [
      | inl less ↦ elim (j.before) [
        | inl touch ↦
            let is : place - 1 ≡ k = omega (arith, touch.1.0) in (
              sym (ap (λ n. (at n).chunk) is) ∙ touch.0.1.0 ∙ sym j.chunk,
              omega (arith, touch.1.1, ap (λ n. (at n).start) is),
              omega (arith, ap (λ n. (at n).end) is, touch.0.1.1, some, ends_high),
            )
        | inr alone ↦ absurd (omega (arith, alone.1.0))
      ]
      | inr not_less ↦ elim (j.after) [
        | inl touch ↦
            let is : place ≡ k = omega (arith, touch.1.0) in (
              sym (ap (λ n. (at n).chunk) is) ∙ touch.0.1.0 ∙ sym j.chunk,
              omega (arith, ap (λ n. (at n).start) is, touch.0.1.1, some, starts_low),
              omega (arith, touch.1.1, ap (λ n. (at n).end) is),
            )
        | inr alone ↦ absurd (omega (arith, alone.1.0))
      ]
    ]

    -- a byte of the joint is one of the block, or of a neighbour
    makes : (b : ℕ) → joint.start ≤ b → b < joint.end → With (Without F x) x joint.chunk b
    makes b ge lt = elim (cases_lt b x.start) [
      | inl less ↦ elim (j.before) [
        | inl touch ↦
            let last : place - 1 < length regions = omega (arith, touch.0.0, within) in
            inl (subst (λ chunk. Without F x chunk b) (touch.0.1.0 ∙ sym j.chunk)
            (beside.rest.spaced.free (at (place - 1)) (in_list (place - 1) last) b (omega (arith, touch.1.1, ge)) (omega (arith, touch.0.1.1, less))))
        | inr alone ↦ absurd (omega (arith, alone.1.1, ge, less))
      ]
      | inr not_less ↦ elim (cases_lt b x.end) [
        | inl inside ↦ inr (j.chunk, not_less, inside)
        | inr past ↦ elim (j.after) [
          | inl touch ↦
              inl (subst (λ chunk. Without F x chunk b) (touch.0.1.0 ∙ sym j.chunk)
              (beside.rest.spaced.free (at place) (in_list place touch.0.0) b (omega (arith, touch.0.1.1, past)) (omega (arith, touch.1.1, lt))))
          | inr alone ↦ absurd (omega (arith, alone.1.1, past, lt))
        ]
      ]
    ]

    at_is : (r : FreeListRegion) (k : ℕ) → k < length regions → get_or regions k r ≡ r → at k ≡ r
    at_is r k lt is = get_or_default regions k d r lt ∙ is

    -- what stays does not touch the joint
    stays_apart : (r : FreeListRegion) (k : ℕ) → k < length regions → (k < from) ⊎ (to ≤ k) → get_or regions k r ≡ r → Touches r joint → ⊥
    stays_apart r k lt (inl less) is = apart_before r joint (subst (λ q. IsBefore q joint) (at_is r k lt is) (front_stays k less))
    stays_apart r k lt (inr more) is = apart_after r joint (subst (λ q. IsBefore joint q) (at_is r k lt is) (back_stays k more lt))

    side : (k : ℕ) → (from ≤ k × k < to) ⊎ ((k < from) ⊎ (to ≤ k))
    side k = elim (cases_lt k from) [
      | inl less ↦ inr (inl less)
      | inr not_less ↦ elim (cases_lt k to) [ inl inner ↦ inl (not_less, inner) | inr past ↦ inr (inr past) ]
    ]

    -- with the block given back, all bytes are free that were
    all_free : (chunk b : ℕ) → With (Without F x) x chunk b → F chunk b
    all_free chunk b (inl rest) = rest.0
    all_free chunk b (inr back) = subst (λ c. F c b) (sym back.0) (beside.inside b back.1 back.2)

    free_again : (chunk b : ℕ) → F chunk b → With (Without F x) x chunk b
    free_again chunk b free = elim (cases_eq chunk x.chunk) [
      | inr other ↦ inl (free, λ same ge lt. other same)
      | inl same ↦ elim (cases_lt b x.start) [
        | inl less ↦ inl (free, λ same ge lt. omega (arith, less, ge))
        | inr from ↦ elim (cases_lt b x.end) [
          | inl to ↦ inr (same, from, to)
          | inr past ↦ inl (free, λ same ge lt. omega (arith, past, lt))
        ]
      ]
    ]

    is_joined : IsJoined (Without F x) (Contains regions) (Contains (take from regions ++ joint ∷ drop to regions)) x joint
    is_joined = record {
      chunk = j.chunk;
      from = starts_low;
      to = ends_high;
      swallowed = λ r (k, lt, is) touch. elim (side k) [
        | inl inner ↦ let in_joint = swallows k inner.0 inner.1 in subst (λ (q : FreeListRegion). joint.start ≤ q.start × q.end ≤ joint.end) (at_is r k lt is) (in_joint.1, in_joint.2)
        | inr outer ↦ absurd (stays_apart r k lt outer is touch)
      ];
      made = makes;
      kept = λ r (k, lt, is) apart. elim (side k) [
        | inl inner ↦
            let in_joint = swallows k inner.0 inner.1 in
            absurd (apart (subst (λ q. Touches q joint) (at_is r k lt is) (record {
              chunk = in_joint.0;
              low = omega (arith, nonempty k lt, in_joint.2);
              high = omega (arith, nonempty k lt, in_joint.1);
            })))
        | inr outer ↦ spliced_kept regions from to joint order high r k lt outer is
      ];
      added = spliced_new regions from to joint order high;
      cases = λ r in_new. elim (spliced_cases regions from to joint order high r in_new) [
        | inl new ↦ inl new
        | inr old ↦ inr ((old.0, old.1, old.3), stays_apart r old.0 old.1 old.2 old.3)
      ];
    }

    -- the block is joined with its neighbours, and the list has all that is free
    pub block_joined : AreRuns (take from regions ++ joint ∷ drop to regions) F
    block_joined = record {
      spaced = spaced_same (record { to = all_free; from = free_again }) (Contains (take from regions ++ joint ∷ drop to regions))
          (joined (Without F x) (Contains regions) (Contains (take from regions ++ joint ∷ drop to regions)) x joint beside.rest.spaced some is_joined);
      rising = rising_spliced regions from to joint order high beside.rest.rising
          (λ k e less. subst (λ q. IsBefore q joint) (get_or_default regions k d e (omega (arith, less, low, within))) (front_stays k less))
          (λ k e more lt. subst (λ q. IsBefore joint q) (get_or_default regions k d e lt) (back_stays k more lt));
    }
