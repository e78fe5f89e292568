use Rattle.std.proofs.Common.{◌≡◌, ◌-◌, ◌<◌, ◌^◌, None, refl, sym, ap, ◌∙◌, arith, subst}
use Rattle.std.proofs.Math.ListN.{set}
use Rattle.std.specs.FinMap as finite
use Rattle.std.specs.FinSet as set_of
use Rattle.gpu_alloc_types.specs.Properties.{props_at}
use Rattle.gpu_alloc.specs.Candidates.{holding}
use Rattle.gpu_alloc.specs.Importing.{imported_block, imported_object}
use Rattle.gpu_alloc.specs.Inside.{state_in}
use Rattle.gpu_alloc.specs.Whole.{parts_of, whole, IsPartFor}
use Rattle.gpu_alloc_block.specs.Parts.{Makes}
use Rattle.gpu_alloc.proofs.Wholes.{own_comes, unheld_then}
use Rattle.gpu_alloc_block.specs.State.{State, HeldObject, Block, span_of}
use Rattle.gpu_alloc_base.specs.declared.heap.Heap.{Heap}
use Rattle.gpu_alloc.proofs.Consistency.{HoldsMore, booked-held, ledger-room}
use Rattle.gpu_alloc.proofs.Grants.{state_held}
use Rattle.gpu_alloc.proofs.HeapLists.{properties_kept}
use Rattle.gpu_alloc.proofs.Imports.{imports}
use Rattle.gpu_alloc.proofs.Linked.{chosen_more, kept-room}
use Rattle.gpu_alloc.proofs.allocator.GpuAllocator.take_over.Given.{Over}
use Rattle.gpu_alloc.proofs.allocator.GpuAllocator.take_over.Goals as goal

pub invariant_of-self : goal.invariant_of-self
invariant_of-self g c = kept-room _ _ _ _ _ _ _ _ c.reserve.ensures.kept c.self.invariant

pub hold-requires-clause-room : goal.hold-requires-clause-room
hold-requires-clause-room g c =
    let known = rw (← c.self.view_is) at c.requires.known in
    let small : c.args.size < 2 ^ 64 = omega (arith, c.requires.ends) in
    ledger-room _ _ _ _ c.self.invariant.books refl c.args.memory_type _ _ c.index_mut.result.now known c.heap_index-heap.ensures c.index_mut.ensures.value small

-- What is known where there was room: the state before, the new row and block, and what follows from the steps.

abbrev before : (g : Over) → goal.After-new g → State
before g c = state_in c.self.inside.limits c.self.inside.heaps.items c.self.inside.types.items (whole c.self.inside.own c.self.inside.types.items) c.self.inside.allocations_remains

abbrev object : (g : Over) → goal.After-new g → HeldObject
object g c = imported_object c.args.memory_type c.args.size

abbrev block : (g : Over) → goal.After-new g → Block
block g c = imported_block (before g c) (g.M.MemoryObject.object c.args.memory) c.args.memory_type c.args.offset c.args.size

-- the name of the handle that came
name : (g : Over) (c : goal.After-new g) → c.object.result ≡ (block g c).object
name g c = c.object.ensures

some : (g : Over) (c : goal.After-new g) → 0 < c.self.inside.allocations_remains
some g c = subst (λ s. 0 < s.remaining) (sym c.self.view_is) c.requires.remains

free : (g : Over) (c : goal.After-new g) → finite.get (before g c).held (block g c).object ≡ None
free g c = ap (λ (s : State). finite.get s.held (block g c).object) c.self.view_is ∙ c.requires.unheld

came : (g : Over) (c : goal.After-new g) → Makes IsPartFor (parts_of c.insert-key.new.self c.self.inside.types.items) (finite.insert (before g c).held (block g c).object (object g c)) (set_of.insert (before g c).live (span_of (block g c)))
came g c =
    own_comes c.self.inside.own c.self.inside.types.items c.self.invariant.apart c.insert-key.new.self (span_of (block g c)) (object g c) (free g c) refl
    (c.insert-key.ensures.held ∙ (λ k. finite.insert (c.reserve.ensures.kept k).held (name g c k) (object g c)))
    (c.insert-key.ensures.live ∙ (λ k. set_of.insert (c.reserve.ensures.kept k).live (record (span_of (block g c)) { object = name g c k })))

more : (g : Over) (c : goal.After-new g) → HoldsMore _ _ _ _ c.self.invariant.books refl (whole c.insert-key.new.self c.self.inside.types.items) (object g c) (span_of (block g c))
more g c =
    let known = rw (← c.self.view_is) at c.requires.known in
    let small : c.args.size < 2 ^ 64 = omega (arith, c.requires.ends) in
    record {
      with = record { nonempty = c.requires.nonempty; small = small; known = known; lies = λ own. refl };
      free = free g c;
      held = (came g c).held_is;
      live = (came g c).live_is;
    }

state_is : (g : Over) (c : goal.After-new g)
    → state_in c.self.inside.limits (set c.self.inside.heaps.items c.heap_index-heap.result c.hold.new.heap) c.self.inside.types.items (whole c.insert-key.new.self c.self.inside.types.items) (c.self.inside.allocations_remains - 1)
    ≡ holding (before g c) (object g c) (block g c)
state_is g c =
    state_held c.self.inside.limits _ c.self.inside.types.items _ _ c.index_mut.result.now (whole c.self.inside.own c.self.inside.types.items) (whole c.insert-key.new.self c.self.inside.types.items) _ (object g c) (block g c) c.index_mut.ensures.value (ap (λ (h : Heap). h.size) c.hold.ensures.ledger) (ap (λ (h : Heap). h.limit) c.hold.ensures.ledger)
    (more g c).held (more g c).live

block_is : (g : Over) (c : goal.After-new g) → c.new.result ≡ block g c
block_is g c =
    let bits = c.requires.props ∙ ap (λ (s : State). props_at s.properties c.args.memory_type) (sym c.self.view_is) in
    c.new.ensures ∙ (λ k. record (block g c) { props = bits k; atom = c.atom-atom.ensures k })

pub invariant_of-self-2 : goal.invariant_of-self-2
invariant_of-self-2 g c =
    rw (properties_kept c.self.inside.limits c.self.inside.heaps.items c.heap_index-heap.result c.hold.new.heap c.index_mut.result.now c.index_mut.ensures.value (ap (λ (h : Heap). h.size) c.hold.ensures.ledger), c.hold.ensures.count)
    (record {
      books = booked-held _ _ _ _ c.self.invariant.books refl (whole c.insert-key.new.self c.self.inside.types.items) (object g c) (span_of (block g c)) (more g c) c.index_mut.result.now _ _ (some g c)
          c.heap_index-heap.ensures c.index_mut.ensures.value c.hold.ensures.ledger (λ asked. absurd (cc));
      shared = c.self.invariant.shared;
      chosen = chosen_more _ (whole c.self.inside.own c.self.inside.types.items) (whole c.insert-key.new.self c.self.inside.types.items) (block g c).object (object g c) c.self.invariant.chosen refl (came g c).held_is;
      apart = (came g c).apart;
    })

pub returns-clause-imported : goal.returns-clause-imported
returns-clause-imported g c = rw (← c.self.view_is, c.hold.ensures.count) (imports (before g c) _ _ _ _ _ c.new.result (block_is g c) (state_is g c))

-- The object's name is free in the table, and so are its spans.

no_object : (g : Over) (c : goal.After-insert-arg-1 g) → finite.get (whole c.self.inside.own c.self.inside.types.items).held c.object.result ≡ None
no_object g c = ap (λ (s : State). finite.get s.held c.object.result) c.self.view_is ∙ ap (finite.get (c.args.self.now).held) c.object.ensures ∙ c.requires.unheld

pub insert-key-requires-clause-free : goal.insert-key-requires-clause-free
insert-key-requires-clause-free g c = unheld_then c.self.inside.own c.reserve.new.self c.self.inside.types.items c.self.invariant.apart c.reserve.ensures.kept c.object.result (no_object g c)
