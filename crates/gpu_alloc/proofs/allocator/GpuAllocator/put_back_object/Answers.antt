use Rattle.std.proofs.Common.{◌≡◌, ◌+◌, ◌∷◌, [], length, refl, sym, ap, ◌∙◌, arith, subst, vec_len, is_some}
use Rattle.std.proofs.lemmas.Grind.{common_steps}
use Rattle.std.proofs.Math.ListN.{set}
use Rattle.std.specs.FinMap as finite
use Rattle.std.specs.FinSet as set_of
use Rattle.gpu_alloc_types.specs.Device.Event.{Deallocated}
use Rattle.gpu_alloc_block.specs.Agreement.{Agrees}
use Rattle.gpu_alloc.specs.Inside.{state_in}
use Rattle.gpu_alloc.specs.Own.{own_held, own_span}
use Rattle.gpu_alloc.specs.Whole.{whole}
use Rattle.gpu_alloc.proofs.Wholes.{held_here, held_whole, live_here, own_goes}
use Rattle.gpu_alloc_block.specs.State.{State, Span, is_shared, span_of}
use Rattle.gpu_alloc_base.specs.declared.heap.Heap.{Heap}
use Rattle.gpu_alloc.proofs.Agreeing.{agrees_returned}
use Rattle.gpu_alloc.proofs.Consistency.{booked-gone, covers, fits_again, heap_there, known_object}
use Rattle.gpu_alloc.proofs.HeapLists.{properties_kept}
use Rattle.gpu_alloc.proofs.Linked.{chosen_less}
use Rattle.gpu_alloc_block.proofs.LiveSpans.{live_other}
use Rattle.gpu_alloc.proofs.Returns.{returned, goes_with, release, state_returned}
use Rattle.gpu_alloc.proofs.allocator.GpuAllocator.put_back_object.Given.{Over}
use Rattle.gpu_alloc.proofs.allocator.GpuAllocator.put_back_object.Goals as goal

pub remove-row-requires : goal.remove-row-requires
remove-row-requires g c =
    let owned = rw (← c.self.view_is) at c.requires.owned in
    let name = c.object.ensures ∙ c.into_memory-memory.ensures in
    let own = ap is_shared owned.held.3 ∙ c.requires.own in
    record { held = ap is_some (held_here c.self.inside.own c.self.inside.types.items c.self.invariant.apart c.object.result owned.held.0 (ap (finite.get (whole c.self.inside.own c.self.inside.types.items).held) name ∙ owned.held.1) own) }

pub heap_index-heap-requires : goal.heap_index-heap-requires
heap_index-heap-requires g c =
    let found = held_whole c.self.inside.own c.self.inside.types.items c.self.invariant.apart c.object.result (own_held c.remove-row.result) c.remove-row.ensures.row.is_held in
    (known_object _ _ _ _ c.self.invariant.books refl c.object.result (own_held c.remove-row.result) found).of_type

pub index_mut-requires : goal.index_mut-requires
index_mut-requires g c =
    let found = held_whole c.self.inside.own c.self.inside.types.items c.self.invariant.apart c.object.result (own_held c.remove-row.result) c.remove-row.ensures.row.is_held in
    let known = (known_object _ _ _ _ c.self.invariant.books refl c.object.result (own_held c.remove-row.result) found).of_type in
    let n : vec_len c.self.inside.heaps ≡ length c.self.inside.heaps.items = grind (arith, common_steps) in
    omega (arith, n, c.heap_index-heap.ensures, heap_there _ _ _ _ c.self.invariant.books refl c.remove-row.result.memory_type known)

pub release-requires-clause-counted : goal.release-requires-clause-counted
release-requires-clause-counted g c =
    omega (arith, covers _ _ _ _ c.self.invariant.books refl c.object.result (own_held c.remove-row.result) (held_whole c.self.inside.own c.self.inside.types.items c.self.invariant.apart c.object.result (own_held c.remove-row.result) c.remove-row.ensures.row.is_held) c.index_mut.result.now _ c.heap_index-heap.ensures c.index_mut.ensures.value)

pub release-requires-clause-fits : goal.release-requires-clause-fits
release-requires-clause-fits g c =
    omega (arith, fits_again _ _ _ _ c.self.invariant.books refl c.object.result (own_held c.remove-row.result) (held_whole c.self.inside.own c.self.inside.types.items c.self.invariant.apart c.object.result (own_held c.remove-row.result) c.remove-row.ensures.row.is_held))

pub invariant_of-self : goal.invariant_of-self
invariant_of-self g c =
    let at = c.index_mut.ensures.value in
    let owned = rw (← c.self.view_is) at c.requires.owned in
    let name = c.object.ensures ∙ c.into_memory-memory.ensures in
    let row = c.remove-row.ensures.row in
    let live = live_here c.self.inside.own c.self.inside.types.items c.self.invariant.apart (span_of c.args.block) (own_held c.remove-row.result) owned.live (ap (finite.get c.self.inside.own.held) (sym name) ∙ row.is_held) in
    let span : ◌≡◌ {A = Span} (own_span c.remove-row.result) (span_of c.args.block) = sym (row.alone (span_of c.args.block) live (sym name)) in
    let went = own_goes c.self.inside.own c.self.inside.types.items c.self.invariant.apart c.remove-row.new.self c.remove-row.result c.object.result row c.remove-row.ensures.held c.remove-row.ensures.live in
    let now = whole c.remove-row.new.self c.self.inside.types.items in
    let fewer = release c.self.inside.limits _ _ _ now _ c.args.block _ _ c.self.invariant.books owned c.requires.own name
    (held_whole c.self.inside.own c.self.inside.types.items c.self.invariant.apart c.object.result (own_held c.remove-row.result) row.is_held) went.held_is (went.live_is ∙ ap (set_of.remove (whole c.self.inside.own c.self.inside.types.items).live) span) in
    rw (properties_kept c.self.inside.limits c.self.inside.heaps.items c.heap_index-heap.result c.release.new.heap c.index_mut.result.now at (ap (λ (h : Heap). h.size) c.release.ensures.ledger), c.release.ensures.count)
    (record {
      books = booked-gone _ _ _ _ c.self.invariant.books refl now (own_held c.remove-row.result) (span_of c.args.block) fewer.1 c.index_mut.result.now _ _ c.heap_index-heap.ensures at c.release.ensures.ledger;
      shared = c.self.invariant.shared;
      chosen = chosen_less c.self.inside.limits.sharing (whole c.self.inside.own c.self.inside.types.items) now c.object.result c.self.invariant.chosen went.held_is;
      apart = went.apart;
    })

-- What is known at the end: the state before, and the state that is left.

abbrev before : (g : Over) → goal.After-drop-memory g → State
before g c = state_in c.self.inside.limits c.self.inside.heaps.items c.self.inside.types.items (whole c.self.inside.own c.self.inside.types.items) c.self.inside.allocations_remains

left : (g : Over) (c : goal.After-drop-memory g)
    → state_in c.self.inside.limits (set c.self.inside.heaps.items c.heap_index-heap.result c.release.new.heap) c.self.inside.types.items (whole c.remove-row.new.self c.self.inside.types.items) (c.self.inside.allocations_remains + 1)
    ≡ returned (before g c) c.args.block
left g c =
    let owned = rw (← c.self.view_is) at c.requires.owned in
    let name = c.object.ensures ∙ c.into_memory-memory.ensures in
    let row = c.remove-row.ensures.row in
    let live = live_here c.self.inside.own c.self.inside.types.items c.self.invariant.apart (span_of c.args.block) (own_held c.remove-row.result) owned.live (ap (finite.get c.self.inside.own.held) (sym name) ∙ row.is_held) in
    let span : ◌≡◌ {A = Span} (own_span c.remove-row.result) (span_of c.args.block) = sym (row.alone (span_of c.args.block) live (sym name)) in
    let went = own_goes c.self.inside.own c.self.inside.types.items c.self.invariant.apart c.remove-row.new.self c.remove-row.result c.object.result row c.remove-row.ensures.held c.remove-row.ensures.live in
    state_returned c.self.inside.limits _ c.self.inside.types.items _ _ c.index_mut.result.now (whole c.self.inside.own c.self.inside.types.items) (whole c.remove-row.new.self c.self.inside.types.items) _ c.args.block
    c.index_mut.ensures.value (ap (λ (h : Heap). h.size) c.release.ensures.ledger) (ap (λ (h : Heap). h.limit) c.release.ensures.ledger)
    (went.held_is ∙ ap (finite.remove (whole c.self.inside.own c.self.inside.types.items).held) name) (went.live_is ∙ ap (set_of.remove (whole c.self.inside.own c.self.inside.types.items).live) span)

pub returns-clause-freed : goal.returns-clause-freed
returns-clause-freed g c =
    rw (← c.self.view_is, c.release.ensures.count) (
      Deallocated c.args.block.object ∷ [],
      (c.deallocate_memory.new.self, rw (← c.into_memory-memory.ensures) c.deallocate_memory.ensures, refl),
      (c.args.block.object ∷ [], goes_with _ _ _ c.requires.own, (refl, left g c)),
    )

pub returns-clause-objects : goal.returns-clause-objects
returns-clause-objects g c =
    let gone = rw c.into_memory-memory.ensures at (g.met.D.ObjectDevice.row _ _ _ c.deallocate_memory.ensures) in
    rw (← c.self.view_is) (c.args.block.object ∷ [], goes_with _ _ _ c.requires.own, gone)

pub returns-clause-agrees : goal.returns-clause-agrees
returns-clause-agrees g c =
    let agreed = rw (← c.self.view_is) at c.requires.agrees in
    let gone = rw c.into_memory-memory.ensures at (g.met.D.ObjectDevice.row _ _ _ c.deallocate_memory.ensures) in
    let same = g.met.D.ObjectDevice.keeps_properties _ _ _ c.deallocate_memory.ensures in
    rw c.release.ensures.count (subst (λ s. Agrees s (g.D.ObjectDevice.properties c.deallocate_memory.new.self) (g.D.ObjectDevice.objects c.deallocate_memory.new.self)) (sym (left g c))
    (agrees_returned _ _ _ _ _ _ c.args.block agreed same gone refl refl (λ span live. (live_other _ _ span live).1)))
