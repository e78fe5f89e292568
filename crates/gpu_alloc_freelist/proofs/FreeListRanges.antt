-- The free runs as ranges of their objects.
use Rattle.std.proofs.Common.{◌≡◌, inl, inr, ◌↔◌, false, List, map, get_or, Contains, Some, IsSome, refl, sym, ◌∙◌, arith}
use Rattle.std.proofs.lemmas.List.Elements.{Contains-get_or}
use Rattle.std.specs.FinMap as map_of
use Rattle.std.specs.List.{IsDistinct}
use Rattle.gpu_alloc_types.specs.declared.types.FreeRange.{FreeRange}
use Rattle.gpu_alloc_base.specs.Chunks.{Chunk}
use Rattle.gpu_alloc_base.specs.FreeRuns.{AreRising, IsBefore, IsFreeRun}
use Rattle.gpu_alloc_base.specs.RangeOrder.{same_start}
use Rattle.gpu_alloc_base.specs.declared.region.FreeListRegion.{FreeListRegion}
use Rattle.gpu_alloc_freelist.specs.FreeListAllocator.{object_of, IsRunOf}
use Rattle.gpu_alloc_freelist.specs.FreeListSound.{IsSoundFreeList}
use Rattle.gpu_alloc_freelist.specs.FreeListState.{ListSpace, FreeListState, IsFreeIn}
use Rattle.gpu_alloc_base.proofs.ListedRanges.{told_object, listed, start_apart}
use Rattle.gpu_alloc_base.proofs.RangeOrder.{starts_apart}

-- a region as a range of its object
abbrev pub range_of : ListSpace → FreeListRegion → FreeRange
range_of s r = record { object = object_of s r.chunk; start = r.start; end = r.end }

-- the chunk of a run is held
held_of : (s : ListSpace) (r : FreeListRegion) → IsFreeRun (IsFreeIn s) r.chunk r.start r.end → (chunk : Chunk) × (map_of.get s.chunks r.chunk ≡ Some chunk)
held_of s r run = let first = run.free r.start (omega arith) run.nonempty in (first.held, first.is)

pub is_held : (s : ListSpace) (r : FreeListRegion) → IsFreeRun (IsFreeIn s) r.chunk r.start r.end → IsSome (map_of.get s.chunks r.chunk)
is_held s r run = let held = held_of s r run in rw (held.1) refl

module _ (s : ListSpace) (regions : List FreeListRegion) (runs : (r : FreeListRegion) → Contains regions r ↔ IsFreeRun (IsFreeIn s) r.chunk r.start r.end) where
  -- a region's range is one of a free run
  is_run : (r : FreeListRegion) → Contains regions r → IsRunOf s (range_of s r)
  is_run r has =
      let run = (runs r).0 has in
      let held = held_of s r run in
      record { number = r.chunk; chunk = held.0; held = held.1; object = sym (told_object (map_of.get s.chunks r.chunk) held.0 held.1); run = run }

  -- and a free run is one of them
  run_is : (r : FreeRange) → IsRunOf s r → (region : FreeListRegion) × Contains regions region × (range_of s region ≡ r)
  run_is r is =
      let region : FreeListRegion = record { chunk = is.number; start = r.start; end = r.end } in
      let object = told_object (map_of.get s.chunks is.number) is.chunk is.held ∙ is.object in
      (region, (runs region).1 is.run, (λ k. record { object = object k; start = r.start; end = r.end }))

  -- the ranges are exactly those of the free runs
  pub all_runs : (r : FreeRange) → Contains (map (range_of s) regions) r ↔ IsRunOf s r
  all_runs = listed (range_of s) regions (IsRunOf s) is_run run_is

module _ (l : FreeListState) (sound : IsSoundFreeList l) (regions : List FreeListRegion) (runs : (r : FreeListRegion) → Contains regions r ↔ IsFreeRun (IsFreeIn l.space) r.chunk r.start r.end) (rising : AreRising regions) where
  -- one that lies before another is of another chunk, or starts before it
  two_runs : (r t : FreeListRegion) → Contains regions r → Contains regions t → IsBefore r t → same_start (range_of l.space r) (range_of l.space t) ≡ false
  two_runs r t has_r has_t before = starts_apart (range_of l.space r) (range_of l.space t) (λ object start.
      let run = (runs r).0 has_r in
      let held_r = held_of l.space r run in
      let held_t = held_of l.space t ((runs t).0 has_t) in
      let named : held_r.0.object ≡ held_t.0.object =
      sym (told_object (map_of.get l.space.chunks r.chunk) held_r.0 held_r.1) ∙ object ∙ told_object (map_of.get l.space.chunks t.chunk) held_t.0 held_t.1 in
      let chunk : r.chunk ≡ t.chunk = sound.one_object r.chunk t.chunk held_r.0 held_t.0 held_r.1 held_t.1 named in
      elim before [ inl lt ↦ omega (arith, chunk) | inr after ↦ omega (arith, after.1, start, run.nonempty) ])

  -- no two ranges start at one byte of one object
  pub runs_apart : IsDistinct same_start (map (range_of l.space) regions)
  runs_apart = start_apart (range_of l.space) regions (λ i j d lt within.
      two_runs (get_or regions i d) (get_or regions j d) (Contains-get_or regions i d (omega arith)) (Contains-get_or regions j d within) (rising i j d lt within))
