use Rattle.std.proofs.Common.{◌≡◌, ◌+◌, ◌≤◌, ◌↔◌, true, length, map, get_or, Contains, refl, sym, ◌∙◌, ap, subst, arith}
use Rattle.std.specs.FinMap as map_of
use Rattle.std.specs.FinSet as set
use Rattle.std.specs.List.{IsDistinct}
use Rattle.std.proofs.lemmas.List.{length-map}
use Rattle.std.proofs.lemmas.List.Elements.{Contains-get_or}
use Rattle.gpu_alloc_base.specs.FreeRuns.{IsFreeRun}
use Rattle.gpu_alloc_base.specs.RangeOrder.{same_start}
use Rattle.gpu_alloc_freelist.specs.FreeListAllocator.{object_of}
use Rattle.gpu_alloc_freelist.specs.FreeListState.{IsFreeIn, ListSpace}
use Rattle.gpu_alloc_base.specs.declared.region.FreeListRegion.{FreeListRegion}
use Rattle.gpu_alloc_base.proofs.ListedRanges.{told_name, one_more, all_listed}
use Rattle.gpu_alloc_freelist.proofs.WholeCounts.{count_all}
use Rattle.gpu_alloc_freelist.proofs.FreeListRanges.{range_of, is_held, all_runs, runs_apart}
use Rattle.gpu_alloc_freelist.proofs.freelist.FreeListAllocator.free_ranges.Goals as goal

-- no region
abbrev none : FreeListRegion
none = record { chunk = 0; start = 0; end = 0 }

pub loop-region-init : goal.loop-region-init
loop-region-init g c = let made = c.in_ok-ranges.ensures in (made.items, (made.len, made.capacity))

pub chunk-requires : goal.chunk-requires
chunk-requires g c =
    let regions = c.regions-regions.result.now in
    is_held c.self-inside.inside.0.0.freelist.space _ ((c.regions-regions.ensures.runs _).0 (Contains-get_or regions c.loop-region.region-index none c.loop-region-test.true))

pub push_reserved-requires : goal.push_reserved-requires
push_reserved-requires g c = omega (arith, c.loop-region.invariant.1.0, c.loop-region.invariant.1.1, c.loop-region-test.true)

pub loop-region-preserved : goal.loop-region-preserved
loop-region-preserved g c =
    let view : c.self-inside.inside.0.0.freelist.space ≡ c.args.self.now.space = rw (← c.self.view_is, ← c.self-inside.view_is) refl in
    let s = c.self-inside.inside.0.0.freelist.space in
    let regions = c.regions-regions.result.now in
    let i = c.loop-region.region-index in
    let region = get_or regions i none in
    let held = is_held s region ((c.regions-regions.ensures.runs region).0 (Contains-get_or regions i none c.loop-region-test.true)) in
    let name : object_of s region.chunk ≡ c.object.result = told_name (map_of.get s.chunks region.chunk) c.object.result held (rw c.chunk.ensures (sym c.object.ensures)) in
    let same = ap (λ (s : ListSpace). object_of s region.chunk) view in (
      one_more (range_of c.args.self.now.space) regions i none _ c.loop-region.ranges.items c.push_reserved.new.self.items c.loop-region-test.true
          (λ k. record { object = (sym same ∙ name) k; start = region.start; end = region.end }) c.loop-region.invariant.0 c.push_reserved.ensures.items,
      (omega (arith, c.push_reserved.ensures.len, c.loop-region.invariant.1.0), omega (arith, c.push_reserved.ensures.capacity, c.loop-region.invariant.1.1)),
    )

pub put_in_order-requires : goal.put_in_order-requires
put_in_order-requires g c =
    let view : c.self-inside.inside.0.0.freelist.space ≡ c.args.self.now.space = rw (← c.self.view_is, ← c.self-inside.view_is) refl in
    let is = all_listed (range_of c.args.self.now.space) c.regions-regions.result.now c.loop-region.region-index c.loop-region.ranges.items (omega (arith, c.loop-region-test.false)) c.loop-region.invariant.0 in
    let apart = runs_apart _ c.self-inside.invariant c.regions-regions.result.now c.regions-regions.ensures.runs c.regions-regions.ensures.rising in
    subst (IsDistinct same_start) (ap (λ s. map (range_of s) c.regions-regions.result.now) view ∙ sym is) apart

pub returns-clause-runs : goal.returns-clause-runs
returns-clause-runs g c r =
    let view : c.self-inside.inside.0.0.freelist.space ≡ c.args.self.now.space = rw (← c.self.view_is, ← c.self-inside.view_is) refl in
    let is = all_listed (range_of c.args.self.now.space) c.regions-regions.result.now c.loop-region.region-index c.loop-region.ranges.items (omega (arith, c.loop-region-test.false)) c.loop-region.invariant.0 in
    let runs = subst (λ s. (q : FreeListRegion) → Contains c.regions-regions.result.now q ↔ IsFreeRun (IsFreeIn s) q.chunk q.start q.end) view c.regions-regions.ensures.runs in
    let exact = all_runs c.args.self.now.space c.regions-regions.result.now runs r in
    let same = c.put_in_order.ensures.same r in (
      (λ has. exact.0 (subst (λ xs. Contains xs r) is (same.0 has))),
      (λ run. same.1 (subst (λ xs. Contains xs r) (sym is) (exact.1 run))),
    )

-- of every test as many, and so of the one that all pass
pub returns-clause-few : goal.returns-clause-few
returns-clause-few g c =
    let view : c.self-inside.inside.0.0.freelist.space ≡ c.args.self.now.space = rw (← c.self.view_is, ← c.self-inside.view_is) refl in
    let is = all_listed (range_of c.args.self.now.space) c.regions-regions.result.now c.loop-region.region-index c.loop-region.ranges.items (omega (arith, c.loop-region-test.false)) c.loop-region.invariant.0 in
    let same = c.put_in_order.ensures.count (λ _. true) in
    let long = ap length is ∙ length-map c.regions-regions.result.now (range_of c.args.self.now.space) in
    let few = subst (λ (s : ListSpace). length c.regions-regions.result.now ≤ set.len s.live + map_of.len s.chunks) view c.regions-regions.ensures.few in
    omega (arith, few, same, long, count_all c.put_in_order.new.ranges.items, count_all c.loop-region.ranges.items)
