use Rattle.std.proofs.Common.{refl, ap}
use Rattle.gpu_alloc.proofs.Buddies.Named.{buddy_in, buddy_is_named}
use Rattle.gpu_alloc.proofs.ChosenStores.{not_buddies, not_fits}
use Rattle.gpu_alloc.proofs.Fits.Named.{fit_in, fit_is_named}
use Rattle.gpu_alloc.proofs.FreeLists.Named.{list_is_named}
use Rattle.gpu_alloc.proofs.Shared.Calls.{serves, state_of}
use Rattle.gpu_alloc.proofs.FreeRanges.{AreAllFree, AreFreeOn, all_free, fits_free, list_free, pieces_free}
use Rattle.gpu_alloc.proofs.allocator.GpuAllocator.pieces_and_runs.Given.{Over}
use Rattle.gpu_alloc.proofs.allocator.GpuAllocator.pieces_and_runs.Goals.{In_ok-extend_from_slice, in-Buddy+in_ok-chosen-in-Buddy, in-Fit+in_ok-chosen-in-Fit}
use Rattle.gpu_alloc.proofs.allocator.GpuAllocator.pieces_and_runs.Goals as goal

-- the free list's ranges with those of the chosen store are all
all_listed : (g : Over) (c : In_ok-extend_from_slice g) → AreAllFree c.args.self.now c.args.memory_type c.extend_from_slice.new.self.items
all_listed g c =
    let l = c.self.inside.limits in
    let kept = c.self.invariant in
    let known = rw (← c.self.view_is) at c.requires in
    let at = c.index-stores.ensures in
    let its = c.in_ok-ranges.ensures in
    let s = state_of l c.self.inside.heaps.items c.self.inside.types.items c.self.inside.own c.self.inside.allocations_remains in
    let runs = list_free s c.args.memory_type c.index-stores.result.now.free_list (serves list_is_named {l = l} (record { kept = kept; known = known; at = at; is = refl })) kept.chosen c.in_ok-ranges.ranges.items its.order its.runs in
    let others : AreFreeOn s c.args.memory_type 0 c.match-stores.chosen.items = elim c.match-stores.branch [
      | in-Buddy+in_ok-chosen-in-Buddy w ↦
          let store = serves buddy_is_named {l = l} (record { kept = kept; known = known; at = at; is = ap buddy_in w.in-Buddy.is }) in
          let pieces = w.in_ok-chosen-in-Buddy.ensures in
          rw w.chosen-is (pieces_free s c.args.memory_type w.in-Buddy.buddy store kept.chosen (not_buddies l kept known at w.in-Buddy.is) _ pieces.order pieces.pieces)
      | in-Fit+in_ok-chosen-in-Fit w ↦
          let store = serves fit_is_named {l = l} (record { kept = kept; known = known; at = at; is = ap fit_in w.in-Fit.is }) in
          let fitted = w.in_ok-chosen-in-Fit.ensures in
          rw w.chosen-is (fits_free s c.args.memory_type w.in-Fit.fit store kept.chosen (not_fits l kept known at w.in-Fit.is) _ fitted.order fitted.runs)
    ] in
    rw (← c.self.view_is, c.in_ok-extend_from_slice.ensures.items, c.as_slice.ensures.value) (all_free s c.args.memory_type _ _ runs others)

pub put_in_order-requires : goal.put_in_order-requires
put_in_order-requires g c = (all_listed g (goal.at.put_in_order-requires g c).In_ok-extend_from_slice).apart

pub returns-clause-exact : goal.returns-clause-exact
returns-clause-exact g c r =
    let same = c.put_in_order.ensures.same r in
    let exact = (all_listed g (goal.at.returns-clause-exact g c).In_ok-extend_from_slice).exact r in
    (λ has. exact.0 (same.0 has), λ free. same.1 (exact.1 free))
