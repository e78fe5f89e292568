use Rattle.std.proofs.Common.{◌≡◌, ◌<◌, ◌≤◌, ◌+◌, List, ◌∷◌, get_or, length, sym, ◌∙◌, subst, arith}
use Rattle.std.specs.FinMap as finite
use Rattle.gpu_alloc_block.specs.Parts.{Part}
use Rattle.gpu_alloc.specs.Stores.{chosen_part, list_part}
use Rattle.gpu_alloc.proofs.WholeParts.{AreCounted, AreNext, are_next, counted_all, counted_next, left_from, none_left, own_counted}
use Rattle.gpu_alloc.proofs.WholeStores.{buddy_rows_in, fit_rows_in, list_rows_in}
use Rattle.gpu_alloc.proofs.allocator.GpuAllocator.held_objects.Given.{Over}
use Rattle.gpu_alloc.proofs.allocator.GpuAllocator.held_objects.Goals.{After-stores-item, Joined-stores, in-Buddy, in-Fit}
use Rattle.gpu_alloc.proofs.allocator.GpuAllocator.held_objects.Goals as goal

pub loop-stores-init : goal.loop-stores-init
loop-stores-init g c =
    rw (← c.self.view_is, c.deref-stores-items.ensures.value, c.len-count.ensures) (own_counted c.self.inside.own c.self.inside.types.items c.self.invariant.apart)

-- a memory type's stores are the next ones
next : (g : Over) (c : After-stores-item g) → AreNext c.self.inside.limits c.self.inside.heaps.items c.self.inside.types.items c.loop-stores.stores-index c.stores-item.result
next g c =
    let ss = c.self.inside.types.items in
    let inside : c.loop-stores.stores-index < length ss = rw (← c.deref-stores-items.ensures.value) c.loop-stores-test.true in
    let at : c.stores-item.result ≡ get_or ss c.loop-stores.stores-index c.stores-item.result = rw (← c.deref-stores-items.ensures.value) c.stores-item.is in
    are_next c.self.inside.limits _ ss _ _ c.self.invariant (length ss) c.self.invariant.shared.count c.loop-stores.stores-index c.stores-item.result inside at

-- after the store of the chosen kind the free list is left, with the next ones
chosen_counted : (g : Over) (c : Joined-stores g) → AreNext c.self.inside.limits c.self.inside.heaps.items c.self.inside.types.items c.loop-stores.stores-index c.stores-item.result
    → AreCounted (finite.len c.args.self.now.held) (c.loop-stores.count + c.match-stores.count) (list_part c.stores-item.result.free_list ∷ left_from c.self.inside.types.items (c.loop-stores.stores-index + 1))
chosen_counted g c its =
    let ss = c.self.inside.types.items in
    let counted : AreCounted (finite.len c.args.self.now.held) c.loop-stores.count (left_from ss c.loop-stores.stores-index) = rw (← c.deref-stores-items.ensures.value) c.loop-stores.invariant in
    let more : c.match-stores.count ≡ finite.len (chosen_part c.stores-item.result.chosen).held = elim c.match-stores.branch [
      | in-Buddy w ↦ w.count-is ∙ w.len.ensures.value ∙ sym (buddy_rows_in g.M.MemoryObject.object its.for_type w.in-Buddy.is w.chunks.result w.chunks.ensures).count
      | in-Fit w ↦ w.count-is ∙ w.len-in-Fit.ensures.value ∙ sym (fit_rows_in g.M.MemoryObject.object its.for_type w.in-Fit.is w.chunks-in-Fit.result w.chunks-in-Fit.ensures).count
    ] in
    counted_next _ c.loop-stores.count c.match-stores.count (chosen_part c.stores-item.result.chosen) _ (subst (λ (ps : List Part). AreCounted (finite.len c.args.self.now.held) c.loop-stores.count ps) its.left counted) more

pub overflow_add-count : goal.overflow_add-count
overflow_add-count g c =
    let at = goal.at.overflow_add-count g c in
    let counted = rw (← c.self.view_is) at (chosen_counted g at.Joined-stores (next g at.After-stores-item)).exact in
    omega (arith, counted, c.self.invariant.books.count)

pub loop-stores-preserved : goal.loop-stores-preserved
loop-stores-preserved g c =
    let at = goal.at.loop-stores-preserved g c in
    let its = next g at.After-stores-item in
    let chunks = (list_rows_in g.M.MemoryObject.object its.for_type c.chunks-in-loop-stores.result c.chunks-in-loop-stores.ensures).count in
    rw c.deref-stores-items.ensures.value (counted_next _ _ c.len-in-loop-stores.result (list_part c.stores-item.result.free_list) _ (chosen_counted g at.Joined-stores its) (omega (arith, chunks, c.len-in-loop-stores.ensures.value)))

pub overflow_add-count-in-loop-stores : goal.overflow_add-count-in-loop-stores
overflow_add-count-in-loop-stores g c =
    let counted = rw (← c.self.view_is) at (loop-stores-preserved g c).exact in
    omega (arith, counted, c.self.invariant.books.count)

pub returns : goal.returns
returns g c =
    let ss = c.self.inside.types.items in
    let past : length ss ≤ c.loop-stores.stores-index = rw (← c.deref-stores-items.ensures.value) (omega (arith, c.loop-stores-test.false, c.loop-stores.auto.stores-index-end)) in
    let left = none_left c.self.inside.limits _ ss _ _ c.self.invariant (length ss) c.self.invariant.shared.count c.loop-stores.stores-index past in
    counted_all _ _ (rw (c.deref-stores-items.ensures.value, left) at c.loop-stores.invariant)

pub overflow_cast-result : goal.overflow_cast-result
overflow_cast-result g c =
    let counted = rw (← c.self.view_is) at (returns g c) in
    omega (arith, counted, c.self.invariant.books.count)
