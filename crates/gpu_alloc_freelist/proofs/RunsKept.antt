-- The runs of a list, as one loses its tail or is removed, and as a range comes back: whatever the free bytes are, they
-- stay exactly those.
use Rattle.std.proofs.Common.{◌≡◌, inl, inr, ℕ, ◌+◌, ◌<◌, ◌≤◌, List, length, get_or, refl, sym, ◌∙◌, ap, subst, arith}
use Rattle.std.specs.List.{All, Contains, remove}
use Rattle.std.proofs.lemmas.Bool.{cases_lt, cases_order}
use Rattle.std.proofs.lemmas.List.{get_or_default}
use Rattle.std.proofs.lemmas.List.Elements.{Contains-get_or}
use Rattle.gpu_alloc_base.specs.FreeRuns.{IsBefore, With, AreRuns, AreRunsBeside}
use Rattle.gpu_alloc_base.specs.declared.region.FreeListRegion.{FreeListRegion}
use Rattle.gpu_alloc_base.proofs.SameRuns.{runs_same}
use Rattle.gpu_alloc_freelist.specs.Runs.{AreSorted, Cuts, IsApart, PutsBack}
use Rattle.gpu_alloc_freelist.proofs.RunLists.{run_goes, tail_goes, whole_goes, block_joined, joint_length}

-- Of any free bytes.

module _ (F : ℕ → ℕ → Type 0) where
  -- a run loses its tail, or is removed whole
  pub cut_beside : (old new : List FreeListRegion) (i start : ℕ) (d : FreeListRegion) → AreRuns old F → i < length old
      → (get_or old i d).start ≤ start → start < (get_or old i d).end → Cuts old i start new → AreRunsBeside new F (record (get_or old i d) { start = start })
  cut_beside old new i start d runs within from to cuts = elim (cuts d) [
    | inl some ↦ subst (λ list. AreRunsBeside list F (record (get_or old i d) { start = start })) (sym some.1) (tail_goes F old i d runs within start some.0 to)
    | inr none ↦ subst (λ list. AreRunsBeside list F (record (get_or old i d) { start = start })) (sym none.1) (whole_goes F old i d runs within start (sym none.0))
  ]

  -- a range comes back
  pub put_back_runs : (old : List FreeListRegion) (x joint : FreeListRegion) (new : List FreeListRegion) → AreRunsBeside old F x → x.start < x.end → PutsBack old x joint new → AreRuns new F
  put_back_runs old x joint new beside some p =
      subst (λ list. AreRuns list F) (sym p.is)
      (block_joined F old x beside some p.place p.at.before (λ d lt. p.at.behind p.place d (omega arith) lt) p.at.within x p.from p.to joint (p.joined x))

  -- what comes back has no byte in common with the runs beside it
  pub beside_apart : (regions : List FreeListRegion) (x : FreeListRegion) → AreRunsBeside regions F x → x.start < x.end → All (λ r. IsApart r x) regions
  beside_apart regions x beside some k d lt same =
      let r : FreeListRegion = get_or regions k d in
      let has : Contains regions r = Contains-get_or regions k d lt in
      let nonempty : r.start < r.end = beside.rest.spaced.nonempty r has in
      let no_byte = λ (b : ℕ) (low : r.start ≤ b) (high : b < r.end) (from : x.start ≤ b) (to : b < x.end). (beside.rest.spaced.free r has b low high).1 same from to in
      elim (cases_lt x.start r.end) [
        | inr le ↦ inl le
        | inl long ↦ elim (cases_lt r.start x.end) [
          | inr le ↦ inr le
          | inl short ↦ elim (cases_lt r.start x.start) [
            | inl less ↦ absurd (no_byte x.start (omega arith) long (omega arith) some)
            | inr not_less ↦ absurd (no_byte r.start (omega arith) nonempty not_less short)
          ]
        ]
      ]

  -- regions that are the runs are sorted
  pub runs_sorted : (regions : List FreeListRegion) → AreRuns regions F → AreSorted regions
  runs_sorted regions runs = record {
    nonempty = λ k d lt. runs.spaced.nonempty (get_or regions k d) (Contains-get_or regions k d lt);
    rising = runs.rising;
  }

  -- one whose chunk comes after those of all free bytes comes last
  pub last_by_chunk : (regions : List FreeListRegion) (r : FreeListRegion) → AreRuns regions F → ((chunk at : ℕ) → F chunk at → chunk < r.chunk) → All (λ q. IsBefore q r) regions
  last_by_chunk regions r runs below k d lt =
      let has : Contains regions (get_or regions k d) = Contains-get_or regions k d lt in
      inl (below (get_or regions k d).chunk (get_or regions k d).start (runs.spaced.free (get_or regions k d) has (get_or regions k d).start (omega arith) (runs.spaced.nonempty (get_or regions k d) has)))

-- there is at most one run more, and at least one
pub put_back_length : (old : List FreeListRegion) (x joint : FreeListRegion) (new : List FreeListRegion) → PutsBack old x joint new → length new ≤ length old + 1
put_back_length old x joint new p =
    subst (λ list. length list ≤ length old + 1) (sym p.is) (joint_length old p.place x x p.from p.to joint (p.joined x) p.at.within)

-- Of sorted regions alone: they are the runs of their own bytes.

module _ (regions : List FreeListRegion) (sorted : AreSorted regions) where
  -- the byte lies in a region
  abbrev Covered : ℕ → ℕ → Type 0
  Covered chunk at = (r : FreeListRegion) × Contains regions r × (r.chunk ≡ chunk) × (r.start ≤ at) × (at < r.end)

  touch_none : (r s : FreeListRegion) → IsBefore r s → r.chunk ≡ s.chunk → s.start ≤ r.end → ⊥
  touch_none r s (inl less) same le = omega (arith, less, same)
  touch_none r s (inr gap) same le = omega (arith, gap.1, le)

  own_runs : AreRuns regions Covered
  own_runs = record {
    spaced = record {
      nonempty = λ r (k, lt, is). subst (λ (q : FreeListRegion). q.start < q.end) is (sorted.nonempty k r lt);
      apart = λ r s (i, lt_i, is_i) (j, lt_j, is_j) same low high.
          let at_j : get_or regions j r ≡ s = get_or_default regions j r s lt_j ∙ is_j in
          elim (cases_order i j) [
            | inl here ↦ sym is_i ∙ ap (λ n. get_or regions n r) here ∙ at_j
            | inr (inl less) ↦ absurd (touch_none r s (subst (λ q. IsBefore q s) is_i (subst (IsBefore (get_or regions i r)) at_j (sorted.rising i j r less lt_j))) same high)
            | inr (inr more) ↦ absurd (touch_none s r (subst (λ q. IsBefore q r) at_j (subst (IsBefore (get_or regions j r)) is_i (sorted.rising j i r more lt_i))) (sym same) low)
          ];
      free = λ r has at low high. (r, has, refl, low, high);
      covers = λ chunk at free. free;
    };
    rising = sorted.rising;
  }

  -- and beside a range with no byte in common
  own_runs_beside : (x : FreeListRegion) → All (λ r. IsApart r x) regions → AreRunsBeside regions (With Covered x) x
  own_runs_beside x apart = record {
    rest = runs_same (record {
      to = λ chunk at (r, has, is, low, high). (inl (r, has, is, low, high), λ same from to. outside r has (is ∙ same) at low high from to);
      from = λ chunk at (free, out). in_region chunk at free out;
    }) regions own_runs;
    inside = λ at from to. inr (refl, from, to);
  } where
    outside : (r : FreeListRegion) → Contains regions r → r.chunk ≡ x.chunk → (at : ℕ) → r.start ≤ at → at < r.end → x.start ≤ at → at < x.end → ⊥
    outside r (k, lt, is) same at low high from to =
        elim (subst (λ q. IsApart q x) is (apart k r lt) same) [ inl before ↦ omega (arith, before) | inr behind ↦ omega (arith, behind) ]

    in_region : (chunk at : ℕ) → With Covered x chunk at → (chunk ≡ x.chunk → x.start ≤ at → at < x.end → ⊥) → Covered chunk at
    in_region chunk at (inl covered) out = covered
    in_region chunk at (inr inside) out = absurd (out inside.0 inside.1 inside.2)

  -- they stay sorted as one loses its tail or is removed
  pub cut_sorted : (new : List FreeListRegion) (i start : ℕ) (d : FreeListRegion) → i < length regions
      → (get_or regions i d).start ≤ start → start < (get_or regions i d).end → Cuts regions i start new → AreSorted new
  cut_sorted new i start d within from to cuts =
      runs_sorted _ new (cut_beside Covered regions new i start d own_runs within from to cuts).rest

  pub removed_sorted : (i : ℕ) (d : FreeListRegion) → i < length regions → AreSorted (remove regions i)
  removed_sorted i d within = runs_sorted _ (remove regions i) (run_goes Covered regions i d own_runs within).rest

  -- and as a range comes back
  pub put_back_sorted : (x joint : FreeListRegion) (new : List FreeListRegion) → All (λ r. IsApart r x) regions → x.start < x.end → PutsBack regions x joint new → AreSorted new
  put_back_sorted x joint new apart some p = runs_sorted _ new (put_back_runs (With Covered x) regions x joint new (own_runs_beside x apart) some p)
