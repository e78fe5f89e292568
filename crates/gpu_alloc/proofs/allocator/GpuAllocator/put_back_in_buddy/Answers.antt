use Rattle.std.proofs.Common.{◌∙◌, refl, ap, arith}
use Rattle.gpu_alloc_base.specs.Accounts.{account}
use Rattle.gpu_alloc_buddy.specs.BuddyState.{IsNoLiveBuddySpan}
use Rattle.gpu_alloc.proofs.ChosenStores.{no_fit}
use Rattle.gpu_alloc.proofs.Buddies.Named.{buddy_at_once, buddy_in, buddy_is_named, buddy_named, freed_by_rule, leaf_is, leaf_there}
use Rattle.gpu_alloc.proofs.Shared.Calls.{Handed, IsBlockOf, agrees_before, back, counted_before, handed_owned, its}
use Rattle.gpu_alloc.proofs.Shared.Owned.{block_in}
use Rattle.gpu_alloc.proofs.Shared.Returned.{IsPutBack, put_back}
use Rattle.gpu_alloc.proofs.allocator.GpuAllocator.put_back_in_buddy.Given.{Over}
use Rattle.gpu_alloc.proofs.allocator.GpuAllocator.put_back_in_buddy.Goals.{After-new-2}
use Rattle.gpu_alloc.proofs.allocator.GpuAllocator.put_back_in_buddy.Goals as goal

-- The block that comes back, as the buddy allocator finds it.

pub unreachable-requires : goal.unreachable-requires
unreachable-requires g c = let owned = rw (← c.self.view_is) at c.requires.owned in no_fit c.self.inside.limits c.self.invariant c.index_mut.ensures.value c.memory_type-memory_type.ensures owned c.in_default.is c.requires.shared

pub unreachable-requires-in_default-find : goal.unreachable-requires-in_default-find
unreachable-requires-in_default-find g c =
    let owned = rw (← c.self.view_is) at c.requires.owned in
    let name = c.object-object.ensures ∙ c.into_memory-memory.ensures in
    let there = block_in buddy_is_named c.self.inside.limits c.self.invariant owned c.memory_type-memory_type.ensures c.index_mut.ensures.value (ap buddy_in c.in-Buddy.is) 0 c.requires.shared in
    let none : IsNoLiveBuddySpan c.in-Buddy.buddy c.args.block.object c.args.block.offset c.args.block.size = rw (← name, ← c.offset-offset.ensures, ← c.size-size.ensures) (c.in_default-find.ensures.found) in
    none there.0 (leaf_there _ _ there.0 there.1)

given : (g : Over) (c : After-new-2 g)
    → Handed buddy_named c.self.inside.limits c.self.inside.heaps.items c.self.inside.types.items c.self.inside.own c.self.inside.allocations_remains c.memory_type-memory_type.result c.heap_index-heap.result c.index_mut.result.now c.in-Buddy.buddy c.index_mut-2.result.now
given g c = let owned = rw (← c.self.view_is) at c.requires.owned in handed_owned buddy_named c.self.inside.limits c.self.invariant owned c.memory_type-memory_type.ensures c.index_mut.ensures.value (ap buddy_in c.in-Buddy.is) c.heap_index-heap.ensures c.index_mut-2.ensures.value

its_block : (g : Over) (c : After-new-2 g) → IsBlockOf buddy_named c.in-Buddy.buddy c.new.result c.args.block
its_block g c =
    let name = c.object-object.ensures ∙ c.into_memory-memory.ensures in
    leaf_is _ _ _ c.requires.shared (rw (c.new.ensures, ← name, ← c.offset-offset.ensures, ← c.size-size.ensures) c.in-Some.ensures.found)

pub dealloc-requires : goal.dealloc-requires
dealloc-requires g c =
    let agrees = rw (← c.self.view_is) at c.requires.agrees in
    record { begins = (refl, refl, omega (arith, c.new-2.ensures)); live = (its_block g c).live; agrees = agrees_before buddy_is_named (given g c) _ _ agrees; counted = counted_before buddy_is_named (given g c) }

-- What its call did, and what it comes to.

returned_by : (g : Over) (c : goal.After-self-3-1 g) → IsPutBack (given g (goal.at.invariant_of-self g c).After-new-2) g.D.ObjectDevice.step c.args.device.now c.dealloc.new.device c.args.block
    (account c.dealloc.new.buddy c.dealloc.new.heap c.dealloc.new.allocations_remains) (g.D.ObjectDevice.properties c.dealloc.new.device) (g.D.ObjectDevice.objects c.args.device.now) (g.D.ObjectDevice.objects c.dealloc.new.device)
returned_by g c =
    let at = (goal.at.invariant_of-self g c).After-new-2 in
    let agrees = rw (← c.self.view_is) at c.requires.agrees in
    let frees = freed_by_rule _ _ _ _ (its buddy_is_named (given g at).has).1 (its_block g at).live c.dealloc.ensures.frees.2 in
    put_back (given g at) c.dealloc.ensures.frees.1 (back buddy_is_named (given g at) (its_block g at) (buddy_at_once _ _) c.dealloc.ensures.sound agrees c.dealloc.ensures.properties frees c.dealloc.ensures.objects)

pub invariant_of-self : goal.invariant_of-self
invariant_of-self g c = (returned_by g c).kept

pub returns : goal.returns
returns g c = let it = returned_by g c in rw (← c.self.view_is) (record { freed = it.freed; objects = it.objects; agrees = it.agrees; sound = it.sound })
