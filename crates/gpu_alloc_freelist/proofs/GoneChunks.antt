-- Which chunks may go, once one that may is taken out.
use Rattle.std.proofs.Common.{◌≡◌, ◌≢◌, ◌⊎◌, inl, inr, ℕ, ◌-◌, ◌<◌, Bool, Some, IsSome, refl, sym, ◌∙◌, ap, subst, arith}
use Rattle.std.specs.FinMap as map
use Rattle.std.proofs.lemmas.Bool.{cases_lt, cases_eq}
use Rattle.gpu_alloc_base.specs.Chunks.{Chunk}
use Rattle.gpu_alloc_freelist.specs.FreeList.{IsWhollyFree, HasLastRun, MayGo, without_chunk, without_slot}
use Rattle.gpu_alloc_freelist.specs.FreeListSound.{IsSoundFreeList}
use Rattle.gpu_alloc_freelist.specs.FreeListState.{ListSpace, FreeListState, IsFreeIn}
use Rattle.gpu_alloc_base.specs.FreeRuns.{IsBefore, AreFree, IsFreeRun, IsLastRun}
use Rattle.gpu_alloc_base.specs.declared.free_list_block.Slot.{Slot}
use Rattle.gpu_alloc_base.specs.declared.region.FreeListRegion.{FreeListRegion}
use Rattle.gpu_alloc_base.proofs.Maps.{kept_other, kept_key, one_value, found_value}
use Rattle.gpu_alloc_base.proofs.Slots.{slot_removed}
use Rattle.gpu_alloc_shared.proofs.Sized.{sound_less}
use Rattle.gpu_alloc_freelist.proofs.Spaces.{space_without_chunk, space_without_slot, still_free, was_free}

-- Runs, once a chunk is taken out.

module _ (s : ListSpace) (n : ℕ) where
  -- a run of another chunk is one as before
  still_run : (k start end : ℕ) → k ≢ n → IsFreeRun (IsFreeIn s) k start end → IsFreeRun (IsFreeIn (without_chunk s n)) k start end
  still_run k start end other run = record {
    nonempty = run.nonempty;
    free = λ at low high. still_free s n k at other (run.free at low high);
    longest = λ start' end' free. run.longest start' end' (λ at low high. (was_free s n k at (free at low high)).1);
  }

  -- and what is a run was one, of another chunk
  was_run : (k start end : ℕ) → IsFreeRun (IsFreeIn (without_chunk s n)) k start end → (k ≢ n) × IsFreeRun (IsFreeIn s) k start end
  was_run k start end run =
      let other = (was_free s n k start (run.free start (omega arith) run.nonempty)).0 in (
        other,
        record {
          nonempty = run.nonempty;
          free = λ at low high. (was_free s n k at (run.free at low high)).1;
          longest = λ start' end' free. run.longest start' end' (λ at low high. still_free s n k at other (free at low high));
        },
      )

  -- the last run stays the last, where it is of another chunk
  last_stays : (r : FreeListRegion) → r.chunk ≢ n → IsLastRun (IsFreeIn s) r → IsLastRun (IsFreeIn (without_chunk s n)) r
  last_stays r other last = record {
    run = still_run r.chunk r.start r.end other last.run;
    last = λ q run. last.last q (was_run q.chunk q.start q.end run).1;
  }

  -- a wholly free chunk is one run
  module _ (chunk : Chunk) (is : map.get s.chunks n ≡ Some chunk) (some : 0 < chunk.size) (free : IsWhollyFree s n) where
    abbrev whole : FreeListRegion
    whole = record { chunk = n; start = 0; end = chunk.size }

    all_free : AreFree (IsFreeIn s) n 0 chunk.size
    all_free at low high = record { held = chunk; is = is; inside = high; unused = λ slot live of. absurd (free.unused slot live of) }

    ends_inside : (at : ℕ) → IsFreeIn s n at → at < chunk.size
    ends_inside at here = omega (arith, here.inside, ap (λ (c : Chunk). c.size) (one_value _ here.held chunk here.is is))

    whole_run : IsFreeRun (IsFreeIn s) n 0 chunk.size
    whole_run = record {
      nonempty = some;
      free = all_free;
      longest = λ start end range low high. elim (cases_lt chunk.size end) [
        | inl past ↦ let inside = ends_inside chunk.size (range chunk.size (omega (arith, low)) past) in absurd (omega (arith, inside))
        | inr not_past ↦ (omega (arith, low), omega (arith, high, not_past))
      ];
    }

    only_run : (q : FreeListRegion) → q.chunk ≡ n → IsFreeRun (IsFreeIn s) q.chunk q.start q.end → q ≡ whole
    only_run q of run =
        let inside = ends_inside (q.end - 1) (subst (λ k. IsFreeIn s k (q.end - 1)) of (run.free (q.end - 1) (omega (arith, run.nonempty)) (omega (arith, run.nonempty)))) in
        let same = run.longest 0 chunk.size (subst (λ k. AreFree (IsFreeIn s) k 0 chunk.size) (sym of) all_free) (omega arith) (omega (arith, inside)) in
        λ i. record { chunk = of i; start = sym same.0 i; end = sym same.1 i }

    -- the last run of what is left was the last, unless this one was
    was_last : (HasLastRun s n → ⊥) → (r : FreeListRegion) → IsLastRun (IsFreeIn (without_chunk s n)) r → IsLastRun (IsFreeIn s) r
    was_last not_last r last = record {
      run = (was_run r.chunk r.start r.end last.run).1;
      last = λ q run. elim (cases_eq q.chunk n) [
        | inr other ↦ last.last q (still_run q.chunk q.start q.end other run)
        | inl of ↦ elim (cases_lt n r.chunk) [
          | inl before ↦ inr (inl (omega (arith, of, before)))
          | inr not_before ↦ absurd (not_last (whole, (record { run = whole_run; last = every (omega (arith, not_before, (was_run r.chunk r.start r.end last.run).0)) }, refl)))
        ]
      ];
    }
      where
        every : r.chunk < n → (q : FreeListRegion) → IsFreeRun (IsFreeIn s) q.chunk q.start q.end → (q ≡ whole) ⊎ IsBefore q whole
        every after q run = elim (cases_eq q.chunk n) [
          | inl of ↦ inl (only_run q of run)
          | inr other ↦ elim (last.last q (still_run q.chunk q.start q.end other run)) [
            | inl is_r ↦ inr (inl (omega (arith, after, ap (λ (x : FreeListRegion). x.chunk) is_r)))
            | inr before ↦ elim (before) [
              | inl less ↦ inr (inl (omega (arith, after, less)))
              | inr same ↦ inr (inl (omega (arith, after, same.0)))
            ]
          ]
        ]

-- Which chunks may go, once one that may is taken out.

module _ (s : ListSpace) (keep_last : Bool) (n : ℕ) where
  -- what may go then is another, and may go now
  pub may_go_before : (m : ℕ) → MayGo (without_chunk s n) keep_last m → (m ≢ n) × MayGo s keep_last m
  may_go_before m goes =
      let held = found_value _ goes.0.held in
      let was = kept_key s.chunks n m held.0 held.1 in (
        was.0,
        (
          record { held = subst IsSome (sym was.1) refl; unused = goes.0.unused },
          λ keeps last. goes.1 keeps (last.0, (last_stays s n last.0 (λ same. was.0 (sym last.1.1 ∙ same)) last.1.0, last.1.1)),
        ),
      )

  -- another that may go now may go then
  pub may_go_then : (chunk : Chunk) → map.get s.chunks n ≡ Some chunk → 0 < chunk.size → MayGo s keep_last n → (m : ℕ) → m ≢ n → MayGo s keep_last m → MayGo (without_chunk s n) keep_last m
  may_go_then chunk is some this m other goes = (
    record { held = subst IsSome (sym (kept_other s.chunks n m other)) goes.0.held; unused = goes.0.unused },
    λ keeps last. goes.1 keeps (last.0, (was_last s n chunk is some this.0 (this.1 keeps) last.0 last.1.0, last.1.1)),
  )

-- The allocator stays sound.

-- with a block less
pub sound_without_slot : (l : FreeListState) (slot : Slot) → IsSoundFreeList l → IsSoundFreeList (record l { space = without_slot l.space slot })
sound_without_slot l slot sound = sound_less l sound (without_slot l.space slot) (space_without_slot l.space slot sound.space) (λ k c at. at) (λ other live. ((slot_removed l.space.live slot other).0 live).1)

-- with a chunk less in which nothing is live
pub sound_without_chunk : (l : FreeListState) (n : ℕ) → IsSoundFreeList l → IsWhollyFree l.space n → IsSoundFreeList (record l { space = without_chunk l.space n })
sound_without_chunk l n sound free =
    sound_less l sound (without_chunk l.space n) (space_without_chunk l.space n sound.space free.unused) (λ k c at. (kept_key l.space.chunks n k c at).1) (λ slot live. live)
