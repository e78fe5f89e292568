use Rattle.std.proofs.Common.{◌∙◌, refl}
use Rattle.gpu_alloc_base.specs.Accounts.{account}
use Rattle.gpu_alloc.proofs.FreeLists.Gone.{came_back}
use Rattle.gpu_alloc.proofs.FreeLists.Named.{list_is_named, list_named, slot_of_block}
use Rattle.gpu_alloc.proofs.Links.{slot_at}
use Rattle.gpu_alloc.proofs.Shared.Calls.{Handed, IsBlockOf, agrees_before, counted_before, handed_owned}
use Rattle.gpu_alloc.proofs.Shared.Owned.{block_of}
use Rattle.gpu_alloc.proofs.Shared.Returned.{IsPutBack, put_back}
use Rattle.gpu_alloc.proofs.allocator.GpuAllocator.put_back_in_list.Given.{Over}
use Rattle.gpu_alloc.proofs.allocator.GpuAllocator.put_back_in_list.Goals.{After-index_mut-2}
use Rattle.gpu_alloc.proofs.allocator.GpuAllocator.put_back_in_list.Goals as goal

-- What the free list is handed, and the block that comes back.

given : (g : Over) (c : After-index_mut-2 g)
    → Handed list_named c.self.inside.limits c.self.inside.heaps.items c.self.inside.types.items c.self.inside.own c.self.inside.allocations_remains c.memory_type-memory_type.result c.heap_index-heap.result c.index_mut.result.now c.index_mut.result.now.free_list c.index_mut-2.result.now
given g c = let owned = rw (← c.self.view_is) at c.requires.owned in handed_owned list_named c.self.inside.limits c.self.invariant owned c.memory_type-memory_type.ensures c.index_mut.ensures.value refl c.heap_index-heap.ensures c.index_mut-2.ensures.value

its_block : (g : Over) (c : After-index_mut-2 g) → IsBlockOf list_named c.index_mut.result.now.free_list c.new.result c.args.block
its_block g c =
    let owned = rw (← c.self.view_is) at c.requires.owned in
    let name = c.object.ensures ∙ c.into_memory-memory.ensures in
    slot_of_block (block_of list_is_named (given g c).has c.memory_type-memory_type.ensures owned c.args.number c.requires.listed) c.requires.listed
    (c.new.ensures ∙ (λ k. slot_at (record { object = name k; offset = c.offset-offset.ensures k; size = c.size-size.ensures k }) c.args.number))

pub dealloc-requires : goal.dealloc-requires
dealloc-requires g c =
    let at = (goal.at.dealloc-requires g c).After-index_mut-2 in
    let agrees = rw (← c.self.view_is) at c.requires.agrees in
    record { live = (its_block g at).live; agrees = agrees_before list_is_named (given g at) _ _ agrees; counted = counted_before list_is_named (given g at) }

-- What the call did with it, and what is left.

returned_by : (g : Over) (c : goal.After-self-2-1 g) → IsPutBack (given g (goal.at.invariant_of-self g c).After-index_mut-2) g.D.ObjectDevice.step c.args.device.now c.dealloc.new.device c.args.block
    (account c.dealloc.new.self c.dealloc.new.heap c.dealloc.new.allocations_remains) (g.D.ObjectDevice.properties c.dealloc.new.device) (g.D.ObjectDevice.objects c.args.device.now) (g.D.ObjectDevice.objects c.dealloc.new.device)
returned_by g c =
    let at = (goal.at.invariant_of-self g c).After-index_mut-2 in
    let agrees = rw (← c.self.view_is) at c.requires.agrees in
    let gives = c.dealloc.ensures.gives in
    put_back (given g at) gives.1.1 (came_back (given g at) (its_block g at) c.dealloc.ensures.sound agrees c.dealloc.ensures.properties gives.1.2)

pub invariant_of-self : goal.invariant_of-self
invariant_of-self g c = (returned_by g c).kept

pub returns : goal.returns
returns g c = let it = returned_by g c in rw (← c.self.view_is) (record { freed = it.freed; objects = it.objects; agrees = it.agrees; sound = it.sound })
