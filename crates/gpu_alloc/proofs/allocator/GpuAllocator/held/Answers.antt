use Rattle.std.proofs.Common.{◌≡◌, ◌≤◌, ◌∙◌, ◌+◌, ◌∷◌, option_map, Some, None, ap, refl, sym, subst, arith}
use Rattle.std.specs.FinMap as finite
use Rattle.gpu_alloc.specs.Spans.{held_of}
use Rattle.gpu_alloc.specs.Stores.{chosen_part, list_part}
use Rattle.gpu_alloc.specs.Whole.{own_part}
use Rattle.gpu_alloc.proofs.WholeParts.{AreNext, IsLeft, are_next, left_first, left_from, left_none, left_rest, none_left}
use Rattle.gpu_alloc.proofs.WholeStores.{buddy_rows_in, fit_rows_in, list_rows_in, short_in}
use Rattle.gpu_alloc.proofs.allocator.GpuAllocator.held.Given.{Over}
use Rattle.gpu_alloc.proofs.allocator.GpuAllocator.held.Goals.{After-index-stores, In_default-chosen, Joined-stores, in-Buddy, in-Fit}
use Rattle.gpu_alloc.proofs.allocator.GpuAllocator.held.Goals as goal

pub returns-in-Some : goal.returns-in-Some
returns-in-Some g c =
    rw (← c.self.view_is) (left_first _ c.args.object (own_part c.self.inside.own) (left_from c.self.inside.types.items 0) (held_of c.in-Some.row) refl c.in-Some.ensures)

pub loop-memory_type-init : goal.loop-memory_type-init
loop-memory_type-init g c =
    rw (← c.self.view_is) (left_rest _ c.args.object (own_part c.self.inside.own) (left_from c.self.inside.types.items 0) refl c.in_default.ensures)

-- a memory type's stores are the next ones
next : (g : Over) (c : After-index-stores g) → AreNext c.self.inside.limits c.self.inside.heaps.items c.self.inside.types.items c.loop-memory_type.memory_type c.index-stores.result.now
next g c =
    let count = rw (← c.self.view_is) at c.type_count-memory_type-end.ensures in
    are_next c.self.inside.limits _ _ _ _ c.self.invariant _ count c.loop-memory_type.memory_type c.index-stores.result.now c.loop-memory_type-test.true c.index-stores.ensures

-- In the store of the kind that was chosen.

pub row_of-chosen-requires : goal.row_of-chosen-requires
row_of-chosen-requires g c = short_in g.M.MemoryObject.object (next g (goal.at.row_of-chosen-requires g c).After-index-stores).for_type c.in-Buddy.is c.chunks.result c.chunks.ensures

-- its answer is what it holds under the name
chosen_found : (g : Over) (c : Joined-stores g) → AreNext c.self.inside.limits c.self.inside.heaps.items c.self.inside.types.items c.loop-memory_type.memory_type c.index-stores.result.now
    → option_map held_of c.match-stores.chosen ≡ finite.get (chosen_part c.index-stores.result.now.chosen).held c.args.object
chosen_found g c its = elim c.match-stores.branch [
  | in-Buddy w ↦ ap (option_map held_of) w.chosen-is ∙ (buddy_rows_in g.M.MemoryObject.object its.for_type w.in-Buddy.is w.chunks.result w.chunks.ensures).found c.args.object _ w.row_of-chosen.ensures
  | in-Fit w ↦ ap (option_map held_of) w.chosen-is ∙ (fit_rows_in g.M.MemoryObject.object its.for_type w.in-Fit.is w.chunks-in-Fit.result w.chunks-in-Fit.ensures).found c.args.object _ w.row_of-chosen-in-Fit.ensures
]

pub returns-in-Some-chosen : goal.returns-in-Some-chosen
returns-in-Some-chosen g c =
    let at = goal.at.returns-in-Some-chosen g c in
    let e = c.index-stores.result.now in
    let its = next g at.After-index-stores in
    left_first _ c.args.object (chosen_part e.chosen) (list_part e.free_list ∷ left_from c.self.inside.types.items (c.loop-memory_type.memory_type + 1)) (held_of c.in-Some-chosen.row)
    (subst (IsLeft c.args.self.now.held c.args.object) its.left c.loop-memory_type.invariant) (ap (option_map held_of) (sym c.in-Some-chosen.is) ∙ chosen_found g at.Joined-stores its)

-- where it has none the free list is left, with the next ones
chosen_left : (g : Over) (c : In_default-chosen g) → option_map held_of c.match-stores.chosen ≡ finite.get (chosen_part c.index-stores.result.now.chosen).held c.args.object
    → AreNext c.self.inside.limits c.self.inside.heaps.items c.self.inside.types.items c.loop-memory_type.memory_type c.index-stores.result.now
    → IsLeft c.args.self.now.held c.args.object (list_part c.index-stores.result.now.free_list ∷ left_from c.self.inside.types.items (c.loop-memory_type.memory_type + 1))
chosen_left g c found its =
    let e = c.index-stores.result.now in
    left_rest _ c.args.object (chosen_part e.chosen) (list_part e.free_list ∷ left_from c.self.inside.types.items (c.loop-memory_type.memory_type + 1)) (subst (IsLeft c.args.self.now.held c.args.object) its.left c.loop-memory_type.invariant) (ap (option_map held_of) (sym c.in_default-chosen.is) ∙ found)

-- In the free list.

pub returns-in-Some-row_of : goal.returns-in-Some-row_of
returns-in-Some-row_of g c =
    let at = goal.at.returns-in-Some-row_of g c in
    let its = next g at.After-index-stores in
    let rows = list_rows_in g.M.MemoryObject.object its.for_type c.chunks-in-loop-memory_type.result c.chunks-in-loop-memory_type.ensures in
    left_first _ c.args.object (list_part c.index-stores.result.now.free_list) (left_from c.self.inside.types.items (c.loop-memory_type.memory_type + 1)) (held_of c.in-Some-row_of.row) (chosen_left g at.In_default-chosen (chosen_found g at.Joined-stores its) its) (rows.found c.args.object (Some c.in-Some-row_of.row) c.in-Some-row_of.ensures)

pub loop-memory_type-preserved : goal.loop-memory_type-preserved
loop-memory_type-preserved g c =
    let at = goal.at.loop-memory_type-preserved g c in
    let its = next g at.After-index-stores in
    let rows = list_rows_in g.M.MemoryObject.object its.for_type c.chunks-in-loop-memory_type.result c.chunks-in-loop-memory_type.ensures in
    left_rest _ c.args.object (list_part c.index-stores.result.now.free_list) (left_from c.self.inside.types.items (c.loop-memory_type.memory_type + 1)) (chosen_left g at.In_default-chosen (chosen_found g at.Joined-stores its) its) (rows.found c.args.object None c.in_default-row_of.ensures)

pub returns : goal.returns
returns g c =
    let count = rw (← c.self.view_is) at c.type_count-memory_type-end.ensures in
    let past : c.type_count-memory_type-end.result ≤ c.loop-memory_type.memory_type = omega (arith, c.loop-memory_type-test.false) in
    let left = none_left c.self.inside.limits _ _ _ _ c.self.invariant _ count c.loop-memory_type.memory_type past in
    left_none _ c.args.object (subst (IsLeft c.args.self.now.held c.args.object) left c.loop-memory_type.invariant)
