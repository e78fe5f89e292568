use Rattle.std.proofs.Common.{◌≤◌, ◌∙◌, ◌+◌, ◌++◌, [], List, ◌∷◌, ap, subst, arith}
use Rattle.gpu_alloc_base.proofs.Names.{here}
use Rattle.gpu_alloc_block.specs.Parts.{Part}
use Rattle.gpu_alloc.specs.Stores.{chosen_part, list_part}
use Rattle.gpu_alloc.specs.Whole.{IsPartFor, own_part, parts_of}
use Rattle.gpu_alloc.proofs.WholeBuddies.{buddy_row}
use Rattle.gpu_alloc.proofs.WholeFits.{fit_row}
use Rattle.gpu_alloc.proofs.WholeLists.{list_row}
use Rattle.gpu_alloc.proofs.WholeParts.{AreMet, are_next, left_from, met_all, met_next, met_none, none_left, separate}
use Rattle.gpu_alloc.proofs.WholeStores.{buddy_rows_in, fit_rows_in, list_rows_in, rows_met, short_in}
use Rattle.gpu_alloc.proofs.allocator.GpuAllocator.objects.Goals.{in-Buddy+in_ok-list_chunks-in-Buddy, in-Fit+in_ok-list_chunks-in-Fit}
use Rattle.gpu_alloc.proofs.allocator.GpuAllocator.objects.Goals as goal

pub loop-memory_type-init : goal.loop-memory_type-init
loop-memory_type-init g c =
    let own = c.self.inside.own in
    let ss = c.self.inside.types.items in
    let more = c.in_ok-list_objects.ensures in
    rw (← c.self.view_is) (met_next _ [] more.0 c.list_objects.new.rows.items (own_part own) (left_from ss 0)
    (met_none (parts_of own ss) (separate IsPartFor (parts_of own ss) c.self.invariant.apart)) (more.1 ∙ ap (λ xs. xs ++ more.0) c.new-rows.ensures.items) more.2.0 more.2.1)

pub list_chunks-requires : goal.list_chunks-requires
list_chunks-requires g c =
    let count = rw (← c.self.view_is) at c.type_count-memory_type-end.ensures in
    let its = are_next c.self.inside.limits _ _ _ _ c.self.invariant _ count c.loop-memory_type.memory_type c.index-stores.result.now c.loop-memory_type-test.true c.index-stores.ensures in
    short_in g.M.MemoryObject.object its.for_type c.in-Buddy.is c.chunks.result c.chunks.ensures

-- the rows of the store of the chosen kind, and then those of the free list
pub loop-memory_type-preserved : goal.loop-memory_type-preserved
loop-memory_type-preserved g c =
    let object = g.M.MemoryObject.object in
    let e = c.index-stores.result.now in
    let i = c.loop-memory_type.memory_type in
    let count = rw (← c.self.view_is) at c.type_count-memory_type-end.ensures in
    let its = are_next c.self.inside.limits _ _ _ _ c.self.invariant _ count i e c.loop-memory_type-test.true c.index-stores.ensures in
    let all = c.args.self.now.held in
    let after = left_from c.self.inside.types.items (i + 1) in
    let rows = c.loop-memory_type.rows.items in
    let met : AreMet all rows (chosen_part e.chosen ∷ list_part e.free_list ∷ after) = subst (λ (ps : List Part). AreMet all rows ps) its.left c.loop-memory_type.invariant in
    let chosen_met : AreMet all c.match-stores.rows.items (list_part e.free_list ∷ after) = elim c.match-stores.branch [
      | in-Buddy+in_ok-list_chunks-in-Buddy w ↦ rows_met all rows c.match-stores.rows.items (chosen_part e.chosen) (list_part e.free_list ∷ after) (buddy_row object i) w.chunks.result met
          (buddy_rows_in object its.for_type w.in-Buddy.is w.chunks.result w.chunks.ensures) ((λ k. (w.rows-is k).items) ∙ w.in_ok-list_chunks-in-Buddy.ensures)
      | in-Fit+in_ok-list_chunks-in-Fit w ↦ rows_met all rows c.match-stores.rows.items (chosen_part e.chosen) (list_part e.free_list ∷ after) (fit_row object i) w.chunks-in-Fit.result met
          (fit_rows_in object its.for_type w.in-Fit.is w.chunks-in-Fit.result w.chunks-in-Fit.ensures) ((λ k. (w.rows-is k).items) ∙ w.in_ok-list_chunks-in-Fit.ensures)
    ] in
    rows_met all c.match-stores.rows.items c.list_chunks-in-loop-memory_type.new.rows.items (list_part e.free_list) after (list_row object i) c.chunks-in-loop-memory_type.result chosen_met
    (list_rows_in object its.for_type c.chunks-in-loop-memory_type.result c.chunks-in-loop-memory_type.ensures) c.in_ok-list_chunks.ensures

pub returns-clause-exact : goal.returns-clause-exact
returns-clause-exact g c =
    let count = rw (← c.self.view_is) at c.type_count-memory_type-end.ensures in
    let past : c.type_count-memory_type-end.result ≤ c.loop-memory_type.memory_type = omega (arith, c.loop-memory_type-test.false) in
    let left = none_left c.self.inside.limits _ _ _ _ c.self.invariant _ count c.loop-memory_type.memory_type past in
    met_all _ c.loop-memory_type.rows.items (subst (λ (ps : List Part). AreMet c.args.self.now.held c.loop-memory_type.rows.items ps) left c.loop-memory_type.invariant)

pub returns-clause-known : goal.returns-clause-known
returns-clause-known g c = rw (← c.self.view_is) (λ object h held. (here _ _ (c.self.invariant.books.known object) h held).of_type)
