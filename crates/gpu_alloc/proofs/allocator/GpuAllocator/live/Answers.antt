use Rattle.std.proofs.Common.{◌≡◌, ◌<◌, ◌≤◌, [], get_or, length, map, subst, arith}
use Rattle.gpu_alloc_runs.specs.Inside.{leaf_of_slot}
use Rattle.gpu_alloc.specs.Inside.{properties_in}
use Rattle.gpu_alloc.specs.Stores.{IsChosenFor, chosen_part, list_part}
use Rattle.gpu_alloc.specs.Whole.{IsPartFor, own_part, parts_of}
use Rattle.gpu_alloc.proofs.WholeBuddies.{leaf_rows_are, leaf_rows_once}
use Rattle.gpu_alloc.proofs.WholeFits.{fit_spans_are, fit_spans_once}
use Rattle.gpu_alloc.proofs.WholeParts.{AreAdded, AreNext, are_next, left_from, live_met_added, live_met_all, live_met_none, none_left, separate}
use Rattle.gpu_alloc.proofs.allocator.GpuAllocator.live.Given.{Over}
use Rattle.gpu_alloc.proofs.allocator.GpuAllocator.live.Goals.{After-stores-item, in-Buddy+in_ok-list_live-in-Buddy, in-Fit+in_ok-list_live-in-Fit}
use Rattle.gpu_alloc.proofs.allocator.GpuAllocator.live.Goals as goal

pub loop-stores-init : goal.loop-stores-init
loop-stores-init g c =
    let own = c.self.inside.own in
    let ss = c.self.inside.types.items in
    rw (← c.self.view_is, c.deref-stores-items.ensures.value) (live_met_added _ [] c.list_spans.new.rows.items (own_part own) (left_from ss 0)
    (live_met_none (parts_of own ss) (separate IsPartFor (parts_of own ss) c.self.invariant.apart)) (subst (λ rows. AreAdded (own_part own) rows c.list_spans.new.rows.items) c.new-rows.ensures.items c.in_ok-list_spans.ensures))

-- a memory type's stores are the next ones
next : (g : Over) (c : After-stores-item g) → AreNext c.self.inside.limits c.self.inside.heaps.items c.self.inside.types.items c.loop-stores.stores-index c.stores-item.result
next g c =
    let ss = c.self.inside.types.items in
    let inside : c.loop-stores.stores-index < length ss = rw (← c.deref-stores-items.ensures.value) c.loop-stores-test.true in
    let at : c.stores-item.result ≡ get_or ss c.loop-stores.stores-index c.stores-item.result = rw (← c.deref-stores-items.ensures.value) c.stores-item.is in
    are_next c.self.inside.limits _ ss _ _ c.self.invariant (length ss) c.self.invariant.shared.count c.loop-stores.stores-index c.stores-item.result inside at

pub list_slots-requires : goal.list_slots-requires
list_slots-requires g c = record { sound = (next g (goal.at.list_slots-requires g c).After-stores-item).for_type.free_list.sound }

pub loop-stores-preserved : goal.loop-stores-preserved
loop-stores-preserved g c =
    let e = c.stores-item.result in
    let its = next g (goal.at.loop-stores-preserved g c).After-stores-item in
    let met = rw (c.deref-stores-items.ensures.value, its.left) at c.loop-stores.invariant in
    let for = IsChosenFor c.self.inside.limits.config (properties_in c.self.inside.limits c.self.inside.heaps.items) c.self.inside.limits.sharing c.loop-stores.stores-index in
    let added : AreAdded (chosen_part e.chosen) c.loop-stores.rows.items c.match-stores.rows.items = elim c.match-stores.branch [
      | in-Buddy+in_ok-list_live-in-Buddy w ↦
          let sound = (subst for w.in-Buddy.is its.for_type.chosen).1.sound in
          let more = w.in_ok-list_live-in-Buddy.ensures in
          rw (w.in-Buddy.is, w.rows-is) (more.own, more.added, (leaf_rows_are w.in-Buddy.buddy sound more.own more.exact more.once, leaf_rows_once w.in-Buddy.buddy sound more.own more.exact more.once))
      | in-Fit+in_ok-list_live-in-Fit w ↦
          let sound = (subst for w.in-Fit.is its.for_type.chosen).1.sound in
          let more = w.in_ok-list_live-in-Fit.ensures in
          rw (w.in-Fit.is, w.rows-is) (map leaf_of_slot more.own, more.added, (fit_spans_are w.in-Fit.fit sound more.own more.exact more.once, fit_spans_once w.in-Fit.fit sound more.own more.exact more.once))
    ] in
    let then = live_met_added _ c.loop-stores.rows.items c.match-stores.rows.items (chosen_part e.chosen) _ met added in
    rw c.deref-stores-items.ensures.value (live_met_added _ _ c.list_slots.new.rows.items (list_part e.free_list) _ then c.in_ok-list_slots.ensures)

pub returns-clause-exact : goal.returns-clause-exact
returns-clause-exact g c =
    let ss = c.self.inside.types.items in
    let past : length ss ≤ c.loop-stores.stores-index = rw (← c.deref-stores-items.ensures.value) (omega (arith, c.loop-stores-test.false, c.loop-stores.auto.stores-index-end)) in
    let left = none_left c.self.inside.limits _ ss _ _ c.self.invariant (length ss) c.self.invariant.shared.count c.loop-stores.stores-index past in
    live_met_all _ _ (rw (c.deref-stores-items.ensures.value, left) at c.loop-stores.invariant)
