use Rattle.std.proofs.Common.{refl, ap, arith}
use Rattle.gpu_alloc_base.specs.Accounts.{account}
use Rattle.gpu_alloc_base.specs.declared.free_list_block.Slot.{Slot}
use Rattle.gpu_alloc_runs.specs.Space.{IsLiveFitSpan}
use Rattle.gpu_alloc.proofs.ChosenStores.{no_buddy}
use Rattle.gpu_alloc.proofs.Fits.Named.{fit_at_once, fit_in, fit_is_named, fit_named, span_there}
use Rattle.gpu_alloc.proofs.Shared.Calls.{Handed, IsBlockOf, agrees_before, back, counted_before, handed_owned}
use Rattle.gpu_alloc.proofs.Shared.Owned.{block_of}
use Rattle.gpu_alloc.proofs.Shared.Returned.{IsPutBack, put_back}
use Rattle.gpu_alloc.proofs.allocator.GpuAllocator.put_back_in_fit.Given.{Over}
use Rattle.gpu_alloc.proofs.allocator.GpuAllocator.put_back_in_fit.Goals.{After-new}
use Rattle.gpu_alloc.proofs.allocator.GpuAllocator.put_back_in_fit.Goals as goal

-- What the allocator of fit chunks is handed, and the block that comes back.

pub unreachable-requires : goal.unreachable-requires
unreachable-requires g c = let owned = rw (← c.self.view_is) at c.requires.owned in no_buddy c.self.inside.limits c.self.invariant c.index_mut.ensures.value c.memory_type-memory_type.ensures owned c.in_default.is c.requires.shared

given : (g : Over) (c : After-new g)
    → Handed fit_named c.self.inside.limits c.self.inside.heaps.items c.self.inside.types.items c.self.inside.own c.self.inside.allocations_remains c.memory_type-memory_type.result c.heap_index-heap.result c.index_mut.result.now c.in-Fit.fit c.index_mut-2.result.now
given g c = let owned = rw (← c.self.view_is) at c.requires.owned in handed_owned fit_named c.self.inside.limits c.self.invariant owned c.memory_type-memory_type.ensures c.index_mut.ensures.value (ap fit_in c.in-Fit.is) c.heap_index-heap.ensures c.index_mut-2.ensures.value

its_block : (g : Over) (c : After-new g) → (slot : Slot) × IsBlockOf fit_named c.in-Fit.fit slot c.args.block × IsLiveFitSpan c.in-Fit.fit.space (g.M.MemoryObject.object c.into_memory-memory.result) c.offset-offset.result c.size-size.result slot
its_block g c =
    let owned = rw (← c.self.view_is) at c.requires.owned in
    let there = block_of fit_is_named (given g c).has c.memory_type-memory_type.ensures owned 0 c.requires.shared in
    (there.0, there.1, span_there _ _ there.0 _ _ _ there.1 c.into_memory-memory.ensures c.offset-offset.ensures c.size-size.ensures)

pub dealloc_fit-requires : goal.dealloc_fit-requires
dealloc_fit-requires g c =
    let agrees = rw (← c.self.view_is) at c.requires.agrees in
    let it = its_block g c in
    record { begins = (refl, refl, omega (arith, c.new.ensures)); live = (it.0, it.2); agrees = agrees_before fit_is_named (given g c) _ _ agrees; counted = counted_before fit_is_named (given g c) }

-- What the call did with it, and what it comes to.

returned_by : (g : Over) (c : goal.After-self-3-1 g) → IsPutBack (given g (goal.at.invariant_of-self g c).After-new) g.D.ObjectDevice.step c.args.device.now c.dealloc_fit.new.device c.args.block
    (account c.dealloc_fit.new.fits c.dealloc_fit.new.heap c.dealloc_fit.new.allocations_remains) (g.D.ObjectDevice.properties c.dealloc_fit.new.device) (g.D.ObjectDevice.objects c.args.device.now) (g.D.ObjectDevice.objects c.dealloc_fit.new.device)
returned_by g c =
    let at = (goal.at.invariant_of-self g c).After-new in
    let agrees = rw (← c.self.view_is) at c.requires.agrees in
    let it = its_block g at in
    let told = c.dealloc_fit.ensures.frees it.0 it.2 in
    put_back (given g at) told.1 (back fit_is_named (given g at) it.1 (fit_at_once _ _) c.dealloc_fit.ensures.sound agrees c.dealloc_fit.ensures.properties told.2 (c.dealloc_fit.ensures.objects it.0 it.2))

pub invariant_of-self : goal.invariant_of-self
invariant_of-self g c = (returned_by g c).kept

pub returns : goal.returns
returns g c = let it = returned_by g c in rw (← c.self.view_is) (record { freed = it.freed; objects = it.objects; agrees = it.agrees; sound = it.sound })
