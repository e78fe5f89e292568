use Rattle.std.proofs.Common.{◌≡◌, ◌<◌, ◌^◌, refl, sym, ap, ◌∙◌, map as map_list, subst, List}
use Rattle.gpu_alloc.proofs.HeapLists.{unused-limits, unused-offers}
use Rattle.gpu_alloc.proofs.InHand.{all_outside}
use Rattle.gpu_alloc.proofs.Opened.{first_types_kept, first_unused, kept-opened}
use Rattle.gpu_alloc.proofs.Wholes.{nothing_held, nothing_live}
use Rattle.gpu_alloc.specs.FirstTypes.{first_types}
use Rattle.gpu_alloc.specs.Inside.{limit_of, offer_of, types_with}
use Rattle.gpu_alloc.specs.Opening.{opened_by}
use Rattle.gpu_alloc.specs.Owned.{HoldsNothing}
use Rattle.gpu_alloc.specs.Stores.{type_sizes}
use Rattle.gpu_alloc.specs.Whole.{IsKept}
use Rattle.gpu_alloc_base.proofs.Names.{wherever}
use Rattle.gpu_alloc_base.specs.Heap.{unused}
use Rattle.gpu_alloc_base.specs.declared.config.Config.{Config}
use Rattle.gpu_alloc_base.specs.declared.heap.Heap.{Heap}
use Rattle.gpu_alloc_block.specs.State.{HeldObject, span_cmp}
use Rattle.gpu_alloc_block.specs.declared.sharing.Sharing.{Sharing}
use Rattle.gpu_alloc_types.specs.Properties.{Properties, properties_of}
use Rattle.gpu_alloc_types.specs.declared.types.MemoryType.{MemoryType}
use Rattle.gpu_alloc_usage.specs.Ranking.{IsTable}
use Rattle.std.specs.FinMap as map
use Rattle.std.specs.FinSet as set
use Rattle.std.specs.Ordering.{nat_cmp}
use Rattle.gpu_alloc.proofs.allocator.GpuAllocator.with_sharing.Goals as goal

-- the properties that the fields stand for are those that were given
properties_is : (p : Properties) (types : List MemoryType) (heaps : List Heap) → types ≡ p.memory_types → heaps ≡ map_list (λ heap. unused heap.size) p.memory_heaps → ◌≡◌ {A = Properties} (record p { memory_types = types; memory_heaps = map_list offer_of heaps }) p
properties_is p types heaps same_types same_heaps =
    let offers = ap (map_list offer_of) same_heaps ∙ unused-offers p.memory_heaps in
    λ k. record p { memory_types = same_types k; memory_heaps = offers k }

-- an allocator that was opened holds nothing
opened_nothing : (sharing : Sharing) (c : Config) (p : Properties) → HoldsNothing p (opened_by sharing c p)
opened_nothing sharing c p = record {
  properties = refl;
  live = set.len-empty span_cmp;
  held = map.len-empty nat_cmp HeldObject;
  outside = all_outside (opened_by sharing c p) refl;
  agrees = λ q same objects. record {
    properties = same;
    holds = λ name. wherever (map.get (map.empty {X = HeldObject} {R = nat_cmp}) name) _ (λ h at. let none = map.get-empty {X = HeldObject} nat_cmp name in absurd (cc));
  };
}

pub invariant_of-allocator : goal.invariant_of-allocator
invariant_of-allocator g c = record { ranked = subst (λ types. IsTable types c.new.result) (sym c.in-Ok.ensures.items) c.new.ensures }

pub invariant_of-allocator-2 : goal.invariant_of-allocator-2
invariant_of-allocator-2 g c =
    -- the count's type, among what the argument `props` is known by
    let few : c.args.props.max_memory_allocation_count < 2 ^ 32 = c.well_formed.1.1.0.1.1.1.1.0.1 in
    let given = properties_is (properties_of c.args.props) _ _ c.in-Ok.ensures.items c.in-Ok-unused_heaps.ensures in
    subst (λ p. IsKept c.args.sharing c.args.config p c.in-Ok-unused_heaps.heaps.items c.in-Ok-empty_stores.types.items c.new-2.result c.args.props.max_memory_allocation_count) (sym given)
    (kept-opened c.args.sharing c.args.config (properties_of c.args.props) c.in-Ok-unused_heaps.heaps.items c.new-2.result c.in-Ok-empty_stores.types.items c.args.props.max_memory_allocation_count
    c.new-2.ensures.held c.new-2.ensures.live c.requires few c.in-Ok-unused_heaps.ensures c.in-Ok-empty_stores.ensures.count c.in-Ok-empty_stores.ensures.each)

pub returns-clause-opened : goal.returns-clause-opened
returns-clause-opened g c =
    let p = properties_of c.args.props in
    let ss = c.in-Ok-empty_stores.types.items in
    let given = properties_is p _ _ c.in-Ok.ensures.items c.in-Ok-unused_heaps.ensures in
    let limits = ap (map_list limit_of) c.in-Ok-unused_heaps.ensures ∙ unused-limits p.memory_heaps in
    let types =
    ap (λ q. types_with type_sizes (first_types c.args.config q) ss) given
    ∙ first_types_kept c.args.sharing c.args.config p ss c.in-Ok-empty_stores.ensures.count c.in-Ok-empty_stores.ensures.each in
    let none = first_unused c.args.sharing c.args.config p ss c.in-Ok-empty_stores.ensures.each in
    λ k. record (opened_by c.args.sharing c.args.config p) {
      held = nothing_held c.new-2.result ss c.new-2.ensures.held c.new-2.ensures.live none k;
      live = nothing_live c.new-2.result ss c.new-2.ensures.held c.new-2.ensures.live none k;
      heap_limits = limits k;
      types = types k;
      properties = given k;
    }

pub returns-clause-empty : goal.returns-clause-empty
returns-clause-empty g c = rw (returns-clause-opened g c) (opened_nothing c.args.sharing c.args.config (properties_of c.args.props))
