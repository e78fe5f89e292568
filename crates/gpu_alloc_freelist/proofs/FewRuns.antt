-- There are no more free runs than live blocks and held chunks together: a run starts where its chunk does, or a live
-- block ends.
use Rattle.std.proofs.Common.{◌≡◌, ◌≢◌, ◌⊎◌, inl, inr, ℕ, ◌+◌, ◌-◌, ◌<◌, ◌≤◌, ◌==◌, ◌&&◌, true, cond, IsSome, IsTrue, List, [], ◌∷◌, length, refl, sym, ◌∙◌, ap, subst, arith}
use Rattle.std.proofs.lemmas.Bool.{cases_lt, cases_eq}
use Rattle.std.proofs.lemmas.Bool.Decides.{Decides-and, Decides-eqb}
use Rattle.std.proofs.lemmas.Cmp.{eq_by_cmp_equiv}
use Rattle.std.proofs.lemmas.Map.Views.{Contains-from_any, list_any-from_Contains}
use Rattle.std.specs.Bool.{Decides}
use Rattle.std.specs.Cmp.{nat_cmp_total}
use Rattle.std.specs.Ordering.{nat_cmp}
use Rattle.std.specs.FinMap as map
use Rattle.std.specs.FinSet as set
use Rattle.std.specs.List.{Contains}
use Rattle.gpu_alloc_base.specs.Accounts.{HeldChunks}
use Rattle.gpu_alloc_base.specs.FreeRuns.{IsBefore, IsFreeRun}
use Rattle.gpu_alloc_base.specs.Slots.{slot_cmp}
use Rattle.gpu_alloc_base.specs.declared.free_list_block.Slot.{Slot}
use Rattle.gpu_alloc_base.specs.declared.region.FreeListRegion.{FreeListRegion}
use Rattle.gpu_alloc_base.proofs.Lists.{contains_head, contains_later, seek}
use Rattle.gpu_alloc_base.proofs.Maps.{kept_other}
use Rattle.gpu_alloc_base.proofs.Slots.{slot_removed, slot_test, slot_total}
use Rattle.gpu_alloc_freelist.specs.FreeListState.{ListSpace, IsFreeIn, IsLiveSlot}
use Rattle.gpu_alloc_freelist.proofs.FreeListGrants.{Rises, head_before, tail_rises}

-- the block ends where the run starts
abbrev Ends : Slot → FreeListRegion → Type 0
Ends q r = (q.chunk ≡ r.chunk) × (q.offset + q.size ≡ r.start)

-- What lies before a run.

ends_test : (r : FreeListRegion) (q : Slot) → Decides ((q.chunk == r.chunk) && (q.offset + q.size == r.start)) (Ends q r)
ends_test r q = Decides-and _ _ (Decides-eqb q.chunk r.chunk) (Decides-eqb (q.offset + q.size) r.start)

-- the elements of a set
in_items : (s : set.FinSet slot_cmp) (q : Slot) → Decides (set.contains s q) (Contains (set.items s) q)
in_items s q = (
  λ t. Contains-from_any (λ x y h. (slot_test x y).0 h) q (set.items s) (sym (set.contains-items s q) ∙ t),
  λ has. set.contains-items s q ∙ list_any-from_Contains (eq_by_cmp_equiv slot_total) q (set.items s) has,
)

module _ (s : ListSpace) (r : FreeListRegion) (run : IsFreeRun (IsFreeIn s) r.chunk r.start r.end) where
  -- where the run starts after its chunk's start, and no live block ends there, the byte before it is free
  free_before : 0 < r.start → ((q : Slot) → IsLiveSlot s q → Ends q r → ⊥) → IsFreeIn s r.chunk (r.start - 1)
  free_before behind none =
      let first = run.free r.start (omega arith) run.nonempty in
      record {
        held = first.held;
        is = first.is;
        inside = omega (arith, first.inside);
        unused = λ q live same at. elim (cases_eq (q.offset + q.size) r.start) [
          | inl end ↦ none q live (same, end)
          | inr other ↦ first.unused q live same (record { from = omega (arith, at.from); to = omega (arith, at.to, other, behind) })
        ];
      }

  -- a live block ends where it starts, or it starts with its chunk
  pub lies_behind : ((q : Slot) × IsLiveSlot s q × Ends q r) ⊎ (r.start ≡ 0)
  lies_behind = elim (cases_lt 0 r.start) [
    | inr none ↦ inr (omega arith)
    | inl behind ↦ elim (seek (λ (q : Slot). (q.chunk == r.chunk) && (q.offset + q.size == r.start)) (set.items s.live)) [
      | inl found ↦ inl (found.0, (in_items s.live found.0).1 found.1, (ends_test r found.0).0 found.2)
      | inr none ↦
          let before = free_before behind (λ q live ends.
          let no = none q ((in_items s.live q).0 live) in
          let yes = (ends_test r q).1 ends in
          absurd (cc)) in
          let same = run.longest (r.start - 1) r.end (λ at low high. elim (cases_lt at r.start) [
            | inl less ↦ subst (IsFreeIn s r.chunk) (omega (arith, low, less)) before
            | inr more ↦ run.free at more high
          ]) (omega arith) (omega arith) in
          absurd (omega (arith, same.0, behind))
    ]
  ]

-- The count.

some_member : (s : set.FinSet slot_cmp) (q : Slot) → set.contains s q ≡ true → set.len (set.remove s q) + 1 ≡ set.len s
some_member s q has =
    let less : set.len (set.remove s q) ≡ set.len s - 1 = set.len-remove slot_total s q ∙ ap (λ b. cond b (set.len s - 1) (set.len s)) has in
    omega (arith, less, some)
  where
    some : set.len s ≢ 0
    some none = let absent = ap (λ (t : set.FinSet slot_cmp). set.contains t q) (set.empty_of_len s none) ∙ set.contains-empty slot_cmp q in absurd (cc)

some_chunk : (held : HeldChunks) (n : ℕ) → IsSome (map.get held n) → map.len (map.remove held n) + 1 ≡ map.len held
some_chunk held n has =
    let less : map.len (map.remove held n) ≡ map.len held - 1 = map.len-remove nat_cmp_total held n ∙ ap (λ b. cond b (map.len held - 1) (map.len held)) has in
    omega (arith, less, some)
  where
    some : map.len held ≢ 0
    some none = let absent = ap (λ (m : HeldChunks). map.get m n) (map.empty_of_len held none) ∙ map.get-empty nat_cmp n in let there : IsSome (map.get held n) = has in absurd (cc)

-- runs that rise, each after one of that many blocks or at the start of one of that many chunks
few : (runs : List FreeListRegion) (live : set.FinSet slot_cmp) (held : HeldChunks) → Rises IsBefore runs
    → ((r : FreeListRegion) → Contains runs r → (r.start < r.end) × (((q : Slot) × IsTrue (set.contains live q) × Ends q r) ⊎ ((r.start ≡ 0) × IsSome (map.get held r.chunk))))
    → length runs ≤ set.len live + map.len held
few [] live held rises each = omega arith
few (r ∷ runs) live held rises each =
    let first = each r (contains_head r runs) in
    elim (first.1) [
      | inl block ↦
          let rest = few runs (set.remove live block.0) held (tail_rises IsBefore r runs rises) (λ t has.
          let own = each t (contains_later r t runs has) in (
            own.0,
            elim (own.1) [
              | inr start ↦ inr start
              | inl other ↦ inl (other.0, (slot_removed live block.0 other.0).1 (differ t has own.0 block.2.0 block.2.1 other.0 other.2.0 other.2.1, other.1), other.2)
            ],
          )) in
          omega (arith, rest, some_member live block.0 block.1)
      | inr start ↦
          let rest = few runs live (map.remove held r.chunk) (tail_rises IsBefore r runs rises) (λ t has.
          let own = each t (contains_later r t runs has) in (
            own.0,
            elim (own.1) [
              | inl other ↦ inl other
              | inr there ↦ inr (there.0, subst IsSome (sym (kept_other held r.chunk t.chunk (apart t has own.0 start.0 there.0))) there.1)
            ],
          )) in
          omega (arith, rest, some_chunk held r.chunk start.1)
    ]
  where
    before : (t : FreeListRegion) → Contains runs t → IsBefore r t
    before t has = head_before IsBefore r runs t rises has

    starts : r.start < r.end
    starts = (each r (contains_head r runs)).0

    differ : (t : FreeListRegion) → Contains runs t → t.start < t.end → {q : Slot} → q.chunk ≡ r.chunk → q.offset + q.size ≡ r.start → (p : Slot) → p.chunk ≡ t.chunk → p.offset + p.size ≡ t.start → p ≡ q → ⊥
    differ t has some {q} chunk end p chunk_p end_p same =
        let one = ap (λ (x : Slot). x.chunk) same in
        let from = ap (λ (x : Slot). x.offset) same in
        let size = ap (λ (x : Slot). x.size) same in
        elim (before t has) [
          | inl less ↦ omega (arith, less, one, chunk, chunk_p)
          | inr more ↦ omega (arith, more.1, from, size, end, end_p, starts)
        ]

    apart : (t : FreeListRegion) → Contains runs t → t.start < t.end → r.start ≡ 0 → t.start ≡ 0 → t.chunk ≢ r.chunk
    apart t has some at_r at_t same = elim (before t has) [
      | inl less ↦ omega (arith, less, same)
      | inr more ↦ omega (arith, more.1, at_r, at_t, starts)
    ]

pub few_runs : (s : ListSpace) (runs : List FreeListRegion) → ((r : FreeListRegion) → Contains runs r → IsFreeRun (IsFreeIn s) r.chunk r.start r.end) → Rises IsBefore runs → length runs ≤ set.len s.live + map.len s.chunks
few_runs s runs are rises = few runs s.live s.chunks rises (λ r has.
    let run = are r has in (
      run.nonempty,
      elim (lies_behind s r run) [
        | inl block ↦ inl block
        | inr start ↦ let first = run.free r.start (omega arith) run.nonempty in inr (start, rw (first.is) refl)
      ],
    ))
