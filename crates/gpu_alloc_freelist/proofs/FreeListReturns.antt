-- What a block that comes back and a chunk that goes make of a free list.
use Rattle.std.proofs.Common.{◌≡◌, ◌≢◌, inl, inr, ℕ, ◌+◌, ◌-◌, ◌<◌, ◌≤◌, Bool, List, length, get_or, Some, IsSome, refl, sym, ◌∙◌, ap, subst, arith}
use Rattle.std.proofs.lemmas.Bool.{cases_lt}
use Rattle.std.proofs.lemmas.List.{get_or_default}
use Rattle.std.proofs.lemmas.List.Elements.{Contains-get_or}
use Rattle.std.specs.FinMap as map
use Rattle.std.specs.FinSet as set
use Rattle.std.specs.List.{Contains, remove}
use Rattle.gpu_alloc_base.specs.Accounts.{HeldChunks}
use Rattle.gpu_alloc_base.specs.Chunks.{Chunk}
use Rattle.gpu_alloc_freelist.specs.FreeList.{without_slot, without_chunk, IsFirstToGo, MayGo}
use Rattle.gpu_alloc_base.specs.Slots.{region_of, slot_cmp}
use Rattle.gpu_alloc_freelist.specs.Wholes.{wholes}
use Rattle.gpu_alloc_freelist.specs.Chunks.{IsWholeChunk}
use Rattle.gpu_alloc_freelist.specs.FreeListInside.{IsFirstWhole, IsListed, list_space_in, MayBeTaken}
use Rattle.gpu_alloc_freelist.specs.FreeListSound.{IsSoundListSpace}
use Rattle.gpu_alloc_freelist.specs.FreeListState.{ListSpace, IsFreeIn, IsLiveSlot}
use Rattle.gpu_alloc_base.specs.FreeRuns.{AreFree, AreRuns, AreRunsBeside, IsBefore, IsLastRun, Without}
use Rattle.gpu_alloc_base.specs.declared.free_list_block.Slot.{Slot}
use Rattle.gpu_alloc_base.specs.declared.region.FreeListRegion.{FreeListRegion}
use Rattle.gpu_alloc_base.proofs.FreeRuns.{range_in, region_is_run, run_is_region, not_both, not_before_itself}
use Rattle.gpu_alloc_base.proofs.Maps.{one_value, found_value, kept_other}
use Rattle.gpu_alloc_base.proofs.Slots.{slot_removed, slot_same_or_left}
use Rattle.gpu_alloc_base.proofs.SameRuns.{runs_same}
use Rattle.gpu_alloc_freelist.proofs.Spaces.{space_without_slot, space_without_chunk, still_free, was_free}
use Rattle.gpu_alloc_freelist.proofs.RunLists.{run_goes}
use Rattle.gpu_alloc_freelist.proofs.WholeRuns.{wholes_removed, wholes_same}

-- A block comes back.

module _ (s : ListSpace) (sound : IsSoundListSpace s) (slot : Slot) (live : IsLiveSlot s slot) where
  -- its bytes are free once it is no longer live
  pub slot_is_free : AreFree (IsFreeIn (without_slot s slot)) slot.chunk slot.offset (slot.offset + slot.size)
  slot_is_free at low high =
      let lies = sound.inside slot live in
      record {
        held = lies.chunk;
        is = lies.held;
        inside = omega (arith, lies.inside, high);
        unused = λ other is same here.
            let was = (slot_removed s.live slot other).0 is in
            was.0 (sound.apart other slot was.1 live same at here (record { from = low; to = high }));
      }

  -- the other free bytes are those that were free
  pub free_beside : (chunk at : ℕ) → IsFreeIn s chunk at → Without (IsFreeIn (without_slot s slot)) (region_of slot) chunk at
  free_beside chunk at free = (
    record {
      held = free.held;
      is = free.is;
      inside = free.inside;
      unused = λ other is. free.unused other ((slot_removed s.live slot other).0 is).1;
    },
    λ same low high. free.unused slot live (sym same) (record { from = low; to = high }),
  )

  pub free_before : (chunk at : ℕ) → Without (IsFreeIn (without_slot s slot)) (region_of slot) chunk at → IsFreeIn s chunk at
  free_before chunk at free = record {
    held = free.0.held;
    is = free.0.is;
    inside = free.0.inside;
    unused = λ other is same here. elim (slot_same_or_left s.live slot other is) [
      | inl one ↦
          let offset = ap (λ (x : Slot). x.offset) one in
          let size = ap (λ (x : Slot). x.size) one in
          free.1 (sym same ∙ ap (λ (x : Slot). x.chunk) one) (omega (arith, here.from, offset)) (omega (arith, here.to, offset, size))
      | inr left ↦ free.0.unused other left same here
    ];
  }

  -- so the runs stand beside it
  pub runs_beside_slot : (regions : List FreeListRegion) → AreRuns regions (IsFreeIn s) → AreRunsBeside regions (IsFreeIn (without_slot s slot)) (region_of slot)
  runs_beside_slot regions runs = record {
    rest = runs_same (record { to = free_beside; from = free_before }) regions runs;
    inside = slot_is_free;
  }

-- what the stores keep without it
pub listed_without_slot : (chunks : HeldChunks) (old new : set.FinSet slot_cmp) (latest : ℕ) (regions joined : List FreeListRegion) (count room whole : ℕ) (slot : Slot)
    → IsSoundListSpace (list_space_in chunks old latest)
    → AreRuns regions (IsFreeIn (list_space_in chunks old latest))
    → IsLiveSlot (list_space_in chunks old latest) slot
    → new ≡ set.remove old slot
    → ((F : ℕ → ℕ → Type 0) → AreRunsBeside regions F (region_of slot) → AreRuns joined F)
    → count ≤ room
    → wholes chunks joined ≡ whole
    → IsListed (list_space_in chunks new latest) joined count room whole
listed_without_slot chunks old new latest regions joined count room whole slot sound runs live left join enough counted =
    let s = list_space_in chunks old latest in
    let is : without_slot s slot ≡ list_space_in chunks new latest = ap (λ l. list_space_in chunks l latest) (sym left) in
    record {
      sound = subst IsSoundListSpace is (space_without_slot s slot sound);
      runs = subst (λ x. AreRuns joined (IsFreeIn x)) is (join (IsFreeIn (without_slot s slot)) (runs_beside_slot s sound slot live regions runs));
      room = enough;
      whole = counted;
    }

-- Runs in a list.

before_by_chunk : (r s : FreeListRegion) → IsBefore r s → r.chunk ≤ s.chunk
before_by_chunk r s before = elim (before) [ inl less ↦ omega (arith, less) | inr same ↦ omega (arith, same.0) ]

module _ (F : ℕ → ℕ → Type 0) (regions : List FreeListRegion) (runs : AreRuns regions F) where
  stands : (r d : FreeListRegion) (has : Contains regions r) → get_or regions has.0 d ≡ r
  stands r d has = get_or_default regions has.0 d r has.1 ∙ has.2

  -- the last run stands at the end
  pub last_run_at : (r : FreeListRegion) → IsLastRun F r → (has : Contains regions r) × (length regions ≤ has.0 + 1)
  last_run_at r last =
      let has = run_is_region F (Contains regions) runs.spaced r last.run in
      elim (cases_lt (has.0 + 1) (length regions)) [
        | inr end ↦ (has, end)
        | inl more ↦
            let q = get_or regions (has.0 + 1) r in
            let own = Contains-get_or regions (has.0 + 1) r more in
            let before : IsBefore r q = subst (λ x. IsBefore x q) has.2 (runs.rising has.0 (has.0 + 1) r (omega arith) more) in
            let some = runs.spaced.nonempty r has in
            elim (last.last q (region_is_run F (Contains regions) runs.spaced q own)) [
              | inl one ↦ absurd (not_before_itself r some (subst (IsBefore r) one before))
              | inr after ↦ absurd (not_both r q some (runs.spaced.nonempty q own) before after)
            ]
      ]

  -- and what stands there is the last run
  pub end_is_last : (i : ℕ) (d : FreeListRegion) → i < length regions → length regions ≤ i + 1 → IsLastRun F (get_or regions i d)
  end_is_last i d lt end = record {
    run = region_is_run F (Contains regions) runs.spaced (get_or regions i d) (Contains-get_or regions i d lt);
    last = λ q run.
        let has = run_is_region F (Contains regions) runs.spaced q run in
        let is = stands q d has in
        elim (cases_lt has.0 i) [
          | inl less ↦ inr (subst (λ x. IsBefore x (get_or regions i d)) is (runs.rising has.0 i d less lt))
          | inr not ↦
              let here : has.0 ≡ i = omega (arith, not, has.1, end) in
              inl (sym is ∙ ap (λ k. get_or regions k d) here)
        ];
  }

-- A chunk is removed.

module _ (s : ListSpace) (sound : IsSoundListSpace s) (regions : List FreeListRegion) (runs : AreRuns regions (IsFreeIn s)) where
  -- a region lies in a held chunk
  pub region_held : (r : FreeListRegion) → Contains regions r → IsSome (map.get s.chunks r.chunk)
  region_held r has = let free = runs.spaced.free r has r.start (omega arith) (runs.spaced.nonempty r has) in rw (free.is) refl

  -- and does not reach beyond it
  pub region_inside : (r : FreeListRegion) (c : Chunk) → Contains regions r → map.get s.chunks r.chunk ≡ Some c → r.end ≤ c.size
  region_inside r c has is =
      let some = runs.spaced.nonempty r has in
      let free = runs.spaced.free r has (r.end - 1) (omega (arith, some)) (omega (arith, some)) in
      omega (arith, free.inside, ap (λ (x : Chunk). x.size) (one_value _ free.held c free.is is))

  -- a chunk with no live block is a region
  pub whole_is_region : (number : ℕ) (c : Chunk) → map.get s.chunks number ≡ Some c → ((slot : Slot) → IsLiveSlot s slot → slot.chunk ≢ number) → Contains regions (record { chunk = number; start = 0; end = c.size })
  whole_is_region number c is unused =
      let in_one = range_in (IsFreeIn s) (Contains regions) runs.spaced number 0 c.size (sound.sizes number c is).0
      (λ at low high. record { held = c; is = is; inside = high; unused = λ slot live same here. absurd (unused slot live same) }) in
      let r = in_one.0 in
      let inside = region_inside r c in_one.1 (ap (map.get s.chunks) in_one.2 ∙ is) in
      let start : r.start ≡ 0 = omega (arith, in_one.3) in
      let end : r.end ≡ c.size = omega (arith, in_one.4, inside) in
      let one : r ≡ record { chunk = number; start = 0; end = c.size } = λ k. record { chunk = in_one.2 k; start = start k; end = end k } in
      subst (Contains regions) one in_one.1

  -- no block is live in a chunk that is a region
  pub whole_is_unused : (r : FreeListRegion) (c : Chunk) → Contains regions r → map.get s.chunks r.chunk ≡ Some c → r.start ≡ 0 → r.end ≡ c.size → (slot : Slot) → IsLiveSlot s slot → slot.chunk ≢ r.chunk
  whole_is_unused r c has is start end slot live same =
      let lies = sound.inside slot live in
      let size = ap (λ (x : Chunk). x.size) (one_value _ lies.chunk c lies.held (ap (map.get s.chunks) same ∙ is)) in
      let free = runs.spaced.free r has slot.offset (omega (arith, start)) (omega (arith, end, lies.nonempty, lies.inside, size)) in
      free.unused slot live same (record { from = omega arith; to = omega (arith, lies.nonempty) })

  module _ (keep_last : Bool) where
    -- the chunk of a region that may be taken may go
    pub taken_may_go : (i : ℕ) (d : FreeListRegion) → MayBeTaken s.chunks regions keep_last d i → MayGo s keep_last (get_or regions i d).chunk
    taken_may_go i d taken =
        let r = get_or regions i d in
        let own = Contains-get_or regions i d taken.within in
        let chunk = taken.whole.chunk in (
          record { held = region_held r own; unused = whole_is_unused r chunk own taken.whole.is taken.whole.start (sym taken.whole.end) },
          λ keep last.
              let q = last.0 in
              let end = last_run_at (IsFreeIn s) regions runs q last.1.0 in
              let some = runs.spaced.nonempty q end.0 in
              let inside = region_inside q chunk end.0 (ap (map.get s.chunks) last.1.1 ∙ taken.whole.is) in
              let before : IsBefore r q = subst (IsBefore r) (stands (IsFreeIn s) regions runs q d end.0) (runs.rising i end.0.0 d (omega (arith, taken.not_last keep, end.1)) end.0.1) in
              elim (before) [
                | inl less ↦ omega (arith, less, last.1.1)
                | inr same ↦ omega (arith, same.1, some, inside, taken.whole.end)
              ],
        )

    -- and a chunk that may go is such a region
    pub may_be_taken : (number : ℕ) (d : FreeListRegion) → MayGo s keep_last number → (i : ℕ) × (MayBeTaken s.chunks regions keep_last d i × ((get_or regions i d).chunk ≡ number))
    may_be_taken number d go =
        let found = found_value (map.get s.chunks number) go.0.held in
        let c = found.0 in
        let has = whole_is_region number c found.1 go.0.unused in
        let is = stands (IsFreeIn s) regions runs (record { chunk = number; start = 0; end = c.size }) d has in
        let chunk = ap (λ (r : FreeListRegion). r.chunk) is in (
          has.0,
          (
            record {
              within = has.1;
              whole = subst (IsWholeChunk s.chunks) (sym is) (record { start = refl; chunk = c; is = found.1; end = refl });
              not_last = λ keep. elim (cases_lt (has.0 + 1) (length regions)) [
                | inl less ↦ less
                | inr end ↦ absurd (go.1 keep (get_or regions has.0 d, (end_is_last (IsFreeIn s) regions runs has.0 d has.1 end, chunk)))
              ];
            },
            chunk,
          ),
        )

    -- the chunk of the first one has the least number
    pub first_to_go : (i : ℕ) (d : FreeListRegion) → IsFirstWhole s.chunks regions keep_last d i → IsFirstToGo s keep_last (get_or regions i d).chunk
    first_to_go i d first = record {
      goes = taken_may_go i d first.taken;
      least = λ other go.
          let at = may_be_taken other d go in
          elim (cases_lt at.0 i) [
            | inl less ↦ absurd (first.earlier at.0 less at.1.0)
            | inr not_less ↦ elim (cases_lt i at.0) [
              | inl more ↦ omega (arith, before_by_chunk (get_or regions i d) (get_or regions at.0 d) (runs.rising i at.0 d more at.1.0.within), at.1.1)
              | inr not_more ↦
                  let here : i ≡ at.0 = omega (arith, not_less, not_more) in
                  omega (arith, ap (λ k. (get_or regions k d).chunk) here, at.1.1)
            ]
          ];
    }

    -- where no region may be taken, no chunk may go
    pub none_to_go : ((i : ℕ) (d : FreeListRegion) → MayBeTaken s.chunks regions keep_last d i → ⊥) → (number : ℕ) → MayGo s keep_last number → ⊥
    none_to_go none number go =
        let d : FreeListRegion = record { chunk = 0; start = 0; end = 0 } in
        let at = may_be_taken number d go in
        none at.0 d at.1.0

  -- the free bytes of other chunks stay, and no others
  module _ (r : FreeListRegion) (c : Chunk) (is : map.get s.chunks r.chunk ≡ Some c) (start : r.start ≡ 0) (end : r.end ≡ c.size) where
    free_elsewhere : (chunk at : ℕ) → Without (IsFreeIn s) r chunk at → IsFreeIn (without_chunk s r.chunk) chunk at
    free_elsewhere chunk at free =
        let other : chunk ≢ r.chunk = λ same.
        let size = ap (λ (x : Chunk). x.size) (one_value _ free.0.held c free.0.is (ap (map.get s.chunks) same ∙ is)) in
        free.1 same (omega (arith, start)) (omega (arith, end, size, free.0.inside)) in
        still_free s r.chunk chunk at other free.0

    free_there : (chunk at : ℕ) → IsFreeIn (without_chunk s r.chunk) chunk at → Without (IsFreeIn s) r chunk at
    free_there chunk at free = let was = was_free s r.chunk chunk at free in (was.1, λ same low high. was.0 same)

-- What the stores keep without a chunk that may go: the first region that may be taken, and its chunk.
pub record AreLess (held less : HeldChunks) (live : set.FinSet slot_cmp) (latest : ℕ) (regions left : List FreeListRegion) : Type 0 where
  pub sound : IsSoundListSpace (list_space_in less live latest)
  pub runs : AreRuns left (IsFreeIn (list_space_in less live latest))
  pub fewer : wholes less left + 1 ≡ wholes held regions

pub stores_less : (held less : HeldChunks) (live : set.FinSet slot_cmp) (latest : ℕ) (regions left : List FreeListRegion) (keep_last : Bool) (i : ℕ) (r : FreeListRegion)
    → IsSoundListSpace (list_space_in held live latest) → AreRuns regions (IsFreeIn (list_space_in held live latest)) → IsFirstWhole held regions keep_last r i
    → r ≡ get_or regions i r → less ≡ map.remove held r.chunk → left ≡ remove regions i → AreLess held less live latest regions left
stores_less held less live latest regions left keep_last i r sound runs first is gone fewer = record {
  sound = subst IsSoundListSpace (sym space_less) (space_without_chunk (list_space_in held live latest) r.chunk sound (whole_is_unused (list_space_in held live latest) sound regions runs r whole.chunk has whole.is whole.start (sym whole.end)));
  runs = runs_less;
  fewer = omega (arith, wholes_same less held left elsewhere, ap (wholes held) fewer, wholes_removed held regions i r first.taken.within first.taken.whole);
}
  where
    whole : IsWholeChunk held r
    whole = subst (IsWholeChunk held) (sym is) first.taken.whole

    has : Contains regions r
    has = (i, first.taken.within, sym is)

    space_less : list_space_in less live latest ≡ without_chunk (list_space_in held live latest) r.chunk
    space_less = ap (λ h. list_space_in h live latest) gone

    runs_less : AreRuns left (IsFreeIn (list_space_in less live latest))
    runs_less =
        let at_all = free_elsewhere (list_space_in held live latest) sound regions runs r whole.chunk whole.is whole.start (sym whole.end) in
        let from_all = free_there (list_space_in held live latest) sound regions runs r whole.chunk whole.is whole.start (sym whole.end) in
        let without : AreRuns left (Without (IsFreeIn (list_space_in held live latest)) r) =
        subst (λ x. AreRuns left (Without (IsFreeIn (list_space_in held live latest)) x)) (sym is) (subst (λ xs. AreRuns xs (Without (IsFreeIn (list_space_in held live latest)) (get_or regions i r))) (sym fewer) (run_goes (IsFreeIn (list_space_in held live latest)) regions i r runs first.taken.within).rest) in
        subst (λ x. AreRuns left (IsFreeIn x)) (sym space_less) (runs_same (record { to = at_all; from = from_all }) left without)

    -- the runs that are left lie in other chunks
    elsewhere : (q : FreeListRegion) → Contains left q → map.get less q.chunk ≡ map.get held q.chunk
    elsewhere q in_left =
        let free = runs_less.spaced.free q in_left q.start (omega arith) (runs_less.spaced.nonempty q in_left) in
        let other = (was_free (list_space_in held live latest) r.chunk q.chunk q.start (subst (λ x. IsFreeIn x q.chunk q.start) space_less free)).0 in
        ap (λ h. map.get h q.chunk) gone ∙ kept_other held r.chunk q.chunk other
