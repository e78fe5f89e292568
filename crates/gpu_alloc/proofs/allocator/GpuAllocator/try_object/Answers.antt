use Rattle.std.proofs.Common.{◌≡◌, ◌≢◌, ℕ, Bool, true, false, cond, IsTrue, List, ◌+◌, ◌-◌, ◌<◌, ◌≤◌, ◌∷◌, [], ◌^◌, None, Err, refl, sym, ap, ◌∙◌, arith, subst, inl, inr, length}
use Rattle.std.proofs.Math.ListN.{set}
use Rattle.std.specs.FinMap as finite
use Rattle.std.specs.FinSet as set_of
use Rattle.gpu_alloc_types.specs.Device.{IsAllocatable}
use Rattle.gpu_alloc_types.specs.Device.Event.{Allocated}
use Rattle.gpu_alloc_types.specs.Flags.{has_bit}
use Rattle.gpu_alloc_types.specs.Properties.{Properties}
use Rattle.gpu_alloc.specs.Candidates.{own_question, own_candidate, whole_block, holding}
use Rattle.gpu_alloc_base.specs.Case.{Asks}
use Rattle.gpu_alloc.specs.Inside.{state_in, properties_in}
use Rattle.gpu_alloc.specs.Whole.{parts_of, whole, IsPartFor}
use Rattle.gpu_alloc_block.specs.Parts.{Makes}
use Rattle.gpu_alloc.proofs.Wholes.{own_comes, unheld_then}
use Rattle.gpu_alloc_base.specs.NewChunk.{flags_of, made}
use Rattle.gpu_alloc.specs.Own.{OwnTable}
use Rattle.gpu_alloc.specs.Spans.{span_at}
use Rattle.gpu_alloc_block.specs.State.{State, HeldObject, Block}
use Rattle.gpu_alloc_base.specs.declared.heap.Heap.{Heap}
use Rattle.gpu_alloc.specs.declared.limits.Limits.{Limits}
use Rattle.gpu_alloc_base.proofs.Maps.{own_inserted}
use Rattle.gpu_alloc.proofs.Agreeing.{not_held}
use Rattle.gpu_alloc_base.specs.NewObject.{HasOneMore}
use Rattle.gpu_alloc.specs.Allocation.{IsAsCounted}
use Rattle.gpu_alloc.proofs.Consistency.{HoldsMore, booked-held, ledger-room}
use Rattle.gpu_alloc.proofs.Grants.{asks_own, own_object, state_held, decides_granted}
use Rattle.gpu_alloc.proofs.HeapLists.{properties_kept, type_heap_is}
use Rattle.gpu_alloc.proofs.Linked.{chosen_more, kept-room}
use Rattle.gpu_alloc.proofs.allocator.GpuAllocator.try_object.Given.{Over}
use Rattle.gpu_alloc_base.proofs.Outcomes.{when_ok}
use Rattle.gpu_alloc.proofs.allocator.GpuAllocator.try_object.Goals as goal
use Rattle.gpu_alloc.specs.declared.allocator.stores.TypeStores.{TypeStores}

positive : (n : ℕ) → n ≢ 0 → 0 < n
positive n not_zero = omega arith

-- Room is made, and nothing else changes.

state_kept : {A M X : Type 0} (l : Limits A) (heaps : List Heap) (ss : List (TypeStores M X)) (new old : OwnTable) (remaining : ℕ) → new ≡ record old { room = new.room }
    → state_in l heaps ss (whole new ss) remaining ≡ state_in l heaps ss (whole old ss) remaining
state_kept l heaps ss new old remaining kept = ap (λ t. state_in l heaps ss (whole t ss) remaining) kept

pub invariant_of-self : goal.invariant_of-self
invariant_of-self g c = kept-room _ _ _ _ _ _ _ _ c.reserve.ensures.kept c.self.invariant

pub invariant_of-self-in-Err-OutOfDeviceMemory : goal.invariant_of-self-in-Err-OutOfDeviceMemory
invariant_of-self-in-Err-OutOfDeviceMemory g c = kept-room _ _ _ _ _ _ _ _ c.reserve.ensures.kept c.self.invariant

pub invariant_of-self-in-Err-OutOfHostMemory : goal.invariant_of-self-in-Err-OutOfHostMemory
invariant_of-self-in-Err-OutOfHostMemory g c = kept-room _ _ _ _ _ _ _ _ c.reserve.ensures.kept c.self.invariant

-- `small` is what the size's type says, among what the argument `request` is known by
pub hold-requires-clause-room : goal.hold-requires-clause-room
hold-requires-clause-room g c =
    let known = rw (← c.self.view_is) at c.requires.known in
    let small : c.args.request.size < 2 ^ 64 = c.well_formed.1.1.0.1.1.0.1 in
    ledger-room _ _ _ _ c.self.invariant.books refl c.args.memory_type _ _ c.index_mut.result.now known c.heap_index-heap.ensures c.index_mut.ensures.value small

-- What is known where the device granted an object: the state before, the new row and block, and what follows from the steps.

abbrev before : (g : Over) → goal.After-new g → State
before g c = state_in c.self.inside.limits c.self.inside.heaps.items c.self.inside.types.items (whole c.self.inside.own c.self.inside.types.items) c.self.inside.allocations_remains

abbrev object : (g : Over) → goal.After-new g → HeldObject
object g c = own_object c.args.request.size c.args.memory_type

abbrev block : (g : Over) → goal.After-new g → Block
block g c = whole_block (before g c) c.object.result c.args.request.size c.args.memory_type

free : (g : Over) (c : goal.After-new g) → finite.get (before g c).held c.object.result ≡ None
free g c =
    let made = g.met.D.ObjectDevice.row _ _ _ c.in-Ok.ensures in
    let none : g.D.ObjectDevice.objects c.args.device.now c.object.result ≡ None = rw c.object.ensures made.0 in
    ap (λ (s : State). finite.get s.held c.object.result) c.self.view_is ∙ not_held c.args.self.now _ _ _ c.requires.agrees none

came : (g : Over) (c : goal.After-new g)
    → Makes IsPartFor (parts_of c.insert-key.new.self c.self.inside.types.items) (finite.insert (before g c).held c.object.result (object g c)) (set_of.insert (before g c).live (span_at c.object.result 0 c.args.request.size))
came g c =
    own_comes c.self.inside.own c.self.inside.types.items c.self.invariant.apart c.insert-key.new.self (span_at c.object.result 0 c.args.request.size) (object g c) (free g c) refl
    (c.insert-key.ensures.held ∙ (λ k. finite.insert (c.reserve.ensures.kept k).held c.object.result (object g c)))
    (c.insert-key.ensures.live ∙ (λ k. set_of.insert (c.reserve.ensures.kept k).live (span_at c.object.result 0 c.args.request.size)))

more : (g : Over) (c : goal.After-new g) → HoldsMore _ _ _ _ c.self.invariant.books refl (whole c.insert-key.new.self c.self.inside.types.items) (object g c) (span_at c.object.result 0 c.args.request.size)
more g c =
    let known = rw (← c.self.view_is) at c.requires.known in
    let small : c.args.request.size < 2 ^ 64 = c.well_formed.1.1.0.1.1.0.1 in
    record {
      with = record { nonempty = c.requires.askable.nonempty; small = small; known = known; lies = λ own. (refl, refl) };
      free = free g c;
      held = (came g c).held_is;
      live = (came g c).live_is;
    }

asks : (g : Over) (c : goal.After-new g) → Asks (own_candidate (before g c) c.args.request.size c.args.memory_type)
asks g c = asks_own (positive c.self.inside.allocations_remains c.if-self-eq0.false) (rw (← c.self.view_is) at c.requires.room)

-- the heap has room for it where it is counted
fits : (g : Over) (c : goal.After-new g) → c.index_mut.result.now.used + c.args.request.size ≤ c.index_mut.result.now.limit
fits g c =
    let known = rw (← c.self.view_is) at c.requires.known in
    let of = type_heap_is c.self.inside.limits c.self.inside.heaps.items c.self.inside.types.items (whole c.self.inside.own c.self.inside.types.items) c.self.inside.allocations_remains c.self.invariant.books c.args.memory_type _ c.index_mut.result.now known
    c.heap_index-heap.ensures c.index_mut.ensures.value in
    omega (arith, (asks g c).within, of.used, of.limit)

state_is : (g : Over) (c : goal.After-new g)
    → state_in c.self.inside.limits (set c.self.inside.heaps.items c.heap_index-heap.result c.hold.new.heap) c.self.inside.types.items (whole c.insert-key.new.self c.self.inside.types.items) (c.self.inside.allocations_remains - 1)
    ≡ holding (before g c) (own_object c.args.request.size c.args.memory_type) (block g c)
state_is g c =
    state_held c.self.inside.limits _ c.self.inside.types.items _ _ c.index_mut.result.now (whole c.self.inside.own c.self.inside.types.items) (whole c.insert-key.new.self c.self.inside.types.items) _ (object g c) (block g c) c.index_mut.ensures.value (ap (λ (h : Heap). h.size) c.hold.ensures.ledger) (ap (λ (h : Heap). h.limit) c.hold.ensures.ledger)
    (more g c).held (more g c).live

block_is : (g : Over) (c : goal.After-new g) → c.new.result ≡ block g c
block_is g c = c.new.ensures ∙ (λ k. record (block g c) { object = sym c.object.ensures k; props = c.props-props.ensures k; atom = c.atom-atom.ensures k })

pub invariant_of-self-in-Ok : goal.invariant_of-self-in-Ok
invariant_of-self-in-Ok g c =
    rw (properties_kept c.self.inside.limits c.self.inside.heaps.items c.heap_index-heap.result c.hold.new.heap c.index_mut.result.now c.index_mut.ensures.value (ap (λ (h : Heap). h.size) c.hold.ensures.ledger), c.hold.ensures.count)
    (record {
      books = booked-held _ _ _ _ c.self.invariant.books refl (whole c.insert-key.new.self c.self.inside.types.items) (object g c) (span_at c.object.result 0 c.args.request.size) (more g c) c.index_mut.result.now _ _
          (positive c.self.inside.allocations_remains c.if-self-eq0.false) c.heap_index-heap.ensures c.index_mut.ensures.value c.hold.ensures.ledger (λ asked. fits g c);
      shared = c.self.invariant.shared;
      chosen = chosen_more _ (whole c.self.inside.own c.self.inside.types.items) (whole c.insert-key.new.self c.self.inside.types.items) c.object.result (object g c) c.self.invariant.chosen refl (came g c).held_is;
      apart = (came g c).apart;
    })

pub returns-in-Ok-clause-tries : goal.returns-in-Ok-clause-tries
returns-in-Ok-clause-tries g c =
    rw (← c.self.view_is, c.hold.ensures.count) (
      made (own_question (before g c) c.args.request.size c.args.memory_type) c.object.result,
      (c.allocate_memory-answer.new.self, rw (← c.flags-flags.ensures, c.object.ensures) c.in-Ok.ensures, refl),
      decides_granted (before g c) _ c.args.request c.args.memory_type c.object.result _ (block_is g c) (asks g c) (free g c) (state_is g c),
    )

pub returns-in-Ok-clause-objects : goal.returns-in-Ok-clause-objects
returns-in-Ok-clause-objects g c =
    let s = before g c in
    let h = object g c in
    let n = c.object.result in
    let old = g.D.ObjectDevice.objects c.args.device.now in
    let new = g.D.ObjectDevice.objects c.allocate_memory-answer.new.self in
    let one = g.met.D.ObjectDevice.row _ _ _ c.in-Ok.ensures in
    let fresh = one.1.1 in
    let found = ap (λ held. finite.get held n) (more g c).held ∙ own_inserted s.held n h in
    let made : HasOneMore (IsAsCounted s.properties) _ _ old new = record { counted = h; is_counted = found; was_free = rw c.object.ensures one.0; made = one.1.0; is_as = record { of_type = fresh.of_type; of_size = fresh.of_size; mapped = fresh.unmapped }; now = rw c.object.ensures one.1.2 } in
    rw (← c.self.view_is, block_is g c) (rw (free g c) made)

pub returns-in-Err-OutOfHostMemory-clause-tries : goal.returns-in-Err-OutOfHostMemory-clause-tries
returns-in-Err-OutOfHostMemory-clause-tries g c =
    let same = state_kept c.self.inside.limits c.self.inside.heaps.items c.self.inside.types.items c.reserve.new.self c.self.inside.own c.self.inside.allocations_remains c.reserve.ensures.kept in
    rw (← c.self.view_is) (
      Allocated c.args.request.size c.args.memory_type (flags_of (properties_in c.self.inside.limits c.self.inside.heaps.items)) (Err c.in-Err-OutOfHostMemory.field-0) ∷ [],
      (c.allocate_memory-answer.new.self, rw (← c.flags-flags.ensures) (rw c.in-Err-OutOfHostMemory.is at c.allocate_memory-answer.ensures), refl),
      (same, inr (asks_own (positive c.self.inside.allocations_remains c.if-self-eq0.false) (rw (← c.self.view_is) at c.requires.room), inl (inl (rw (rw c.in-Err-OutOfHostMemory.is at c.in-Err-OutOfHostMemory.field-0-is) refl)))),
    )

-- The device grants nothing: room was made, and the state is the one before.

kept-is_err : (g : Over) (c : goal.Then-is_err g)
    → state_in c.self.inside.limits c.self.inside.heaps.items c.self.inside.types.items (whole c.reserve.new.self c.self.inside.types.items) c.self.inside.allocations_remains ≡ c.args.self.now
kept-is_err g c = state_kept c.self.inside.limits c.self.inside.heaps.items c.self.inside.types.items c.reserve.new.self c.self.inside.own c.self.inside.allocations_remains c.reserve.ensures.kept ∙ c.self.view_is

pub returns-then-is_err-clause-tries : goal.returns-then-is_err-clause-tries
returns-then-is_err-clause-tries g c =
    let some = subst (λ s. 0 < s.remaining) c.self.view_is (positive c.self.inside.allocations_remains c.if-self-eq0.false) in
    let asks = asks_own some c.requires.room in
    ([], refl, (kept-is_err g c, inl (refl, record { fits = tt; ways = inr (asks.has.remains, asks.within) })))

pub returns-in-Err-OutOfDeviceMemory-clause-tries : goal.returns-in-Err-OutOfDeviceMemory-clause-tries
returns-in-Err-OutOfDeviceMemory-clause-tries g c =
    let same = state_kept c.self.inside.limits c.self.inside.heaps.items c.self.inside.types.items c.reserve.new.self c.self.inside.own c.self.inside.allocations_remains c.reserve.ensures.kept in
    rw (← c.self.view_is) (
      Allocated c.args.request.size c.args.memory_type (flags_of (properties_in c.self.inside.limits c.self.inside.heaps.items)) (Err c.in-Err-OutOfDeviceMemory.field-0) ∷ [],
      (c.allocate_memory-answer.new.self, rw (← c.flags-flags.ensures) (rw c.in-Err-OutOfDeviceMemory.is at c.allocate_memory-answer.ensures), refl),
      (same, inr (asks_own (positive c.self.inside.allocations_remains c.if-self-eq0.false) (rw (← c.self.view_is) at c.requires.room), inl (rw (rw c.in-Err-OutOfDeviceMemory.is at c.in-Err-OutOfDeviceMemory.field-0-is) refl))),
    )

pub returns-in-Err-OutOfDeviceMemory-clause-objects : goal.returns-in-Err-OutOfDeviceMemory-clause-objects
returns-in-Err-OutOfDeviceMemory-clause-objects g c = g.met.D.ObjectDevice.row _ _ _ (rw c.in-Err-OutOfDeviceMemory.is at c.allocate_memory-answer.ensures)

pub returns-in-Err-OutOfHostMemory-clause-objects : goal.returns-in-Err-OutOfHostMemory-clause-objects
returns-in-Err-OutOfHostMemory-clause-objects g c = g.met.D.ObjectDevice.row _ _ _ (rw c.in-Err-OutOfHostMemory.is at c.allocate_memory-answer.ensures)

-- The new object's name is free in the table, and so is its span.

no_object : (g : Over) (c : goal.After-insert-arg-1 g) → finite.get (whole c.self.inside.own c.self.inside.types.items).held c.object.result ≡ None
no_object g c =
    let made = g.met.D.ObjectDevice.row _ _ _ c.in-Ok.ensures in
    let none : g.D.ObjectDevice.objects c.args.device.now c.object.result ≡ None = rw c.object.ensures made.0 in
    ap (λ (s : State). finite.get s.held c.object.result) c.self.view_is ∙ not_held c.args.self.now _ _ _ c.requires.agrees none

pub insert-key-requires-clause-free : goal.insert-key-requires-clause-free
insert-key-requires-clause-free g c = unheld_then c.self.inside.own c.reserve.new.self c.self.inside.types.items c.self.invariant.apart c.reserve.ensures.kept c.object.result (no_object g c)

flag : (b : Bool) → IsTrue (has_bit (cond b 1 0) 1) → IsTrue b
flag true bit = refl
flag false bit = bit

askable : (s : State) (p : Properties) (size t flags : ℕ) → p ≡ s.properties → 0 < size → t < length s.properties.memory_types → flags ≡ flags_of s.properties → IsAllocatable p size t flags
askable s p size t flags same nonempty known is = record {
  nonempty = nonempty;
  known = rw same known;
  address = λ bit. rw same (flag s.properties.buffer_device_address (rw is at bit));
}

pub allocate_memory-answer-requires : goal.allocate_memory-answer-requires
allocate_memory-answer-requires g c =
    askable c.args.self.now _ c.args.request.size c.args.memory_type _ c.requires.agrees.properties c.requires.askable.nonempty c.requires.known
    (c.flags-flags.ensures ∙ ap (λ (s : State). flags_of s.properties) c.self.view_is)

pub insert-key-requires-clause-room : goal.insert-key-requires-clause-room
insert-key-requires-clause-room g c = when_ok _ (sym c.if-is_err.ensures.value) c.reserve.ensures.room
