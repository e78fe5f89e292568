use Rattle.std.proofs.Common.{◌≡◌, ◌≢◌, ℕ, ◌<◌, length, map, min, set, ap, sym, subst, arith}
use Rattle.std.proofs.lemmas.List.{get_or-set_other, get_or-set_same, length-map}
use Rattle.std.specs.FinMap as finite
use Rattle.gpu_alloc_types.specs.Properties.{Properties}
use Rattle.gpu_alloc_base.specs.declared.heap.Heap.{Heap}
use Rattle.gpu_alloc_block.specs.State.{State, heap_limit}
use Rattle.gpu_alloc.specs.Budget.{heap_bytes, with_heap_limit}
use Rattle.gpu_alloc.specs.Whole.{whole, IsKept}
use Rattle.gpu_alloc.specs.Inside.{limit_of, offer_of, properties_in, state_in}
use Rattle.gpu_alloc.proofs.HeapLists.{ledgers_limited, limit_is_set, properties_kept}
use Rattle.gpu_alloc.proofs.MayAsk.{may_ask_agrees, may_ask_all, may_ask_owned}
use Rattle.gpu_alloc.proofs.allocator.GpuAllocator.set_heap_limit.Given.{Over}
use Rattle.gpu_alloc.proofs.allocator.GpuAllocator.set_heap_limit.Goals as goal
use Rattle.gpu_alloc.proofs.allocator.GpuAllocator.set_heap_limit.Goals.{After-keeps_sound}

pub invariant_of-self : goal.invariant_of-self
invariant_of-self g c =
    let heaps = c.self.inside.heaps.items in
    let is = c.self.invariant in
    let known = rw (← c.self.view_is) at c.requires in
    let inside : c.args.heap < length heaps = omega (arith, length-map heaps offer_of) in
    subst (λ (q : Properties). IsKept c.self.inside.limits.sharing c.self.inside.limits.config q (set heaps c.args.heap c.set_limit.new.self) c.self.inside.types.items c.self.inside.own c.self.inside.allocations_remains)
    (sym (properties_kept c.self.inside.limits heaps c.args.heap c.set_limit.new.self c.index_mut.result.now c.index_mut.ensures.value (ap (λ (h : Heap). h.size) c.set_limit.ensures))) (record {
      books = record {
        usable = is.books.usable;
        count = is.books.count;
        known = is.books.known;
        spans = is.books.spans;
        small = is.books.small;
        ledgers = ledgers_limited (properties_in c.self.inside.limits heaps) heaps c.args.heap c.args.limit c.set_limit.new.self c.index_mut.result.now (finite.entries (whole c.self.inside.own c.self.inside.types.items).held) is.books.ledgers inside c.index_mut.ensures.value c.set_limit.ensures;
      };
      shared = is.shared;
      chosen = is.chosen;
      apart = is.apart;
    })

is_set : (g : Over) (c : After-keeps_sound g) → state_in c.self.inside.limits (set c.self.inside.heaps.items c.args.heap c.set_limit.new.self) c.self.inside.types.items (whole c.self.inside.own c.self.inside.types.items) c.self.inside.allocations_remains
    ≡ with_heap_limit c.args.self.now c.args.heap c.args.limit
is_set g c =
    let heaps = c.self.inside.heaps.items in
    let known = rw (← c.self.view_is) at c.requires in
    let inside : c.args.heap < length heaps = omega (arith, length-map heaps offer_of) in
    rw (← c.self.view_is) (limit_is_set c.self.inside.limits heaps c.self.inside.types.items (whole c.self.inside.own c.self.inside.types.items) c.self.inside.allocations_remains c.self.invariant.books.ledgers
    c.args.heap c.args.limit c.set_limit.new.self c.index_mut.result.now inside c.index_mut.ensures.value c.set_limit.ensures)

pub returns-clause-set : goal.returns-clause-set
returns-clause-set g c = is_set g c

pub returns-clause-told : goal.returns-clause-told
returns-clause-told g c =
    let s = c.args.self.now in
    let heaps = c.self.inside.heaps.items in
    let known = rw (← c.self.view_is) at c.requires in
    let count : length (map limit_of heaps) ≡ length heaps = length-map heaps limit_of in
    let inside : c.args.heap < length (map limit_of heaps) = omega (arith, known, count, length-map heaps offer_of) in
    let there : c.args.heap < length s.heap_limits = rw (← c.self.view_is) inside in
    subst (λ (x : State). heap_limit x c.args.heap ≡ min c.args.limit (heap_bytes s.properties c.args.heap)) (sym (is_set g c))
    (get_or-set_same s.heap_limits c.args.heap (min c.args.limit (heap_bytes s.properties c.args.heap)) 0 there)

pub returns-clause-others : goal.returns-clause-others
returns-clause-others g c =
    let s = c.args.self.now in
    subst (λ (x : State). (other : ℕ) → other ≢ c.args.heap → heap_limit x other ≡ heap_limit s other) (sym (is_set g c))
    (λ other apart. get_or-set_other s.heap_limits c.args.heap other (min c.args.limit (heap_bytes s.properties c.args.heap)) 0 apart)

pub returns-clause-owned : goal.returns-clause-owned
returns-clause-owned g c = may_ask_owned c.args.self.now _ (c.args.self.now).remaining _ (is_set g c)

pub returns-clause-all : goal.returns-clause-all
returns-clause-all g c = may_ask_all c.args.self.now _ (c.args.self.now).remaining _ (is_set g c)

pub returns-clause-agrees : goal.returns-clause-agrees
returns-clause-agrees g c = may_ask_agrees c.args.self.now _ (c.args.self.now).remaining _ (is_set g c)
