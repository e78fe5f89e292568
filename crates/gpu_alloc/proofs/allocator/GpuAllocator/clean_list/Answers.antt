use Rattle.std.proofs.Common.{false, map, refl}
use Rattle.gpu_alloc_base.specs.Accounts.{account}
use Rattle.gpu_alloc_freelist.specs.FreeListAllocator.{object_of}
use Rattle.gpu_alloc.proofs.FreeLists.Gone.{chunks_go, names_gone}
use Rattle.gpu_alloc.proofs.FreeLists.Named.{list_is_named, list_named}
use Rattle.gpu_alloc.proofs.ReturnedTotals.{chunks_total}
use Rattle.gpu_alloc.proofs.Shared.Calls.{Handed, IsLeft, agrees_before, before, counted_before, handed}
use Rattle.gpu_alloc.proofs.allocator.GpuAllocator.clean_list.Given.{Over}
use Rattle.gpu_alloc.proofs.allocator.GpuAllocator.clean_list.Goals.{After-index_mut-2}
use Rattle.gpu_alloc.proofs.allocator.GpuAllocator.clean_list.Goals as goal

-- What the free list is handed, what its call did, and what it comes to.

given : (g : Over) (c : After-index_mut-2 g)
    → Handed list_named c.self.inside.limits c.self.inside.heaps.items c.self.inside.types.items c.self.inside.own c.self.inside.allocations_remains c.args.memory_type c.heap_index-heap.result c.index_mut.result.now c.index_mut.result.now.free_list c.index_mut-2.result.now
given g c = handed list_named c.self.inside.limits c.self.invariant (rw (← c.self.view_is) at c.requires.known) c.index_mut.ensures.value refl c.heap_index-heap.ensures c.index_mut-2.ensures.value

pub cleanup-requires : goal.cleanup-requires
cleanup-requires g c =
    let h = given g (goal.at.cleanup-requires g c).After-index_mut-2 in
    let agrees = rw (← c.self.view_is) at c.requires.agrees in
    record { agrees = agrees_before list_is_named h _ _ agrees; counted = counted_before list_is_named h }

left : (g : Over) (c : goal.After-self-2-1 g) → IsLeft (given g (goal.at.invariant_of-self g c).After-index_mut-2) (before (given g (goal.at.invariant_of-self g c).After-index_mut-2)) (map (object_of c.index_mut.result.now.free_list.space) c.cleanup.ensures.gives.0) (account c.cleanup.new.self c.cleanup.new.heap c.cleanup.new.allocations_remains) c.cleanup.ensures.gives.1.0
    (g.D.ObjectDevice.properties c.cleanup.new.device) (g.D.ObjectDevice.objects c.args.device.now) (g.D.ObjectDevice.objects c.cleanup.new.device)
left g c =
    let agrees = rw (← c.self.view_is) at c.requires.agrees in
    chunks_go (given g (goal.at.invariant_of-self g c).After-index_mut-2) c.cleanup.ensures.sound agrees c.cleanup.ensures.properties c.cleanup.ensures.gives.1.2

pub invariant_of-self : goal.invariant_of-self
invariant_of-self g c = (left g c).kept

pub returns : goal.returns
returns g c =
    let gives = c.cleanup.ensures.gives in
    let released = names_gone (given g (goal.at.returns g c).After-index_mut-2) false gives.0 gives.1.2.0 in
    let it = left g c in
    rw (← c.self.view_is) (record { gives = (_, gives.1.0, gives.1.1, record { chunks = released; lets = it.lets; objects = it.objects }); agrees = it.agreed; total = chunks_total _ _ _ _ _ _ released it.lets })
