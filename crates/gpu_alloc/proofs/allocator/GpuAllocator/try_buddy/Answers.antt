use Rattle.std.proofs.Common.{◌≡◌, Result, ap, ◌∙◌}
use Rattle.gpu_alloc_base.specs.Accounts.{account}
use Rattle.gpu_alloc_base.specs.declared.buddy_block.Leaf.{Leaf}
use Rattle.gpu_alloc_base.specs.declared.error.AllocationError.{AllocationError}
use Rattle.gpu_alloc_block.specs.declared.block.Kind.TheVariants.{BuddyChunk}
use Rattle.gpu_alloc.specs.Sound.{is_chosen}
use Rattle.gpu_alloc.specs.declared.allocator.Strategy.TheVariants.{InBuddyChunk}
use Rattle.gpu_alloc.proofs.Atoms.{some_atom}
use Rattle.gpu_alloc.proofs.Buddies.Named.{buddy_asked, buddy_in, buddy_is_named, buddy_named, buddy_request}
use Rattle.gpu_alloc.proofs.Shared.Calls.{Handed, agrees_before, before, counted_before, handed, serves}
use Rattle.gpu_alloc.proofs.Shared.Tries.{IsTried, addressed, ends, parts_are, told_as, tried}
use Rattle.gpu_alloc.proofs.allocator.GpuAllocator.try_buddy.Given.{Over}
use Rattle.gpu_alloc.proofs.allocator.GpuAllocator.try_buddy.Goals.{After-alloc-answer, After-new-2}
use Rattle.gpu_alloc.proofs.allocator.GpuAllocator.try_buddy.Goals as goal

-- What the buddy allocator is handed.

handed_now : (g : Over) (c : After-new-2 g)
    → Handed buddy_named c.self.inside.limits c.self.inside.heaps.items c.self.inside.types.items c.self.inside.own c.self.inside.allocations_remains c.args.memory_type c.heap_index-heap.result c.index_mut.result.now c.in-Buddy.buddy c.index_mut-2.result.now
handed_now g c = handed buddy_named c.self.inside.limits c.self.invariant (rw (← c.self.view_is) at c.requires.known) c.index_mut.ensures.value (ap buddy_in c.in-Buddy.is) c.heap_index-heap.ensures c.index_mut-2.ensures.value

pub alloc-answer-requires-clause-address : goal.alloc-answer-requires-clause-address
alloc-answer-requires-clause-address g c = let agrees = rw (← c.self.view_is) at c.requires.agrees in addressed (handed_now g c) agrees c.flags-flags.ensures

pub alloc-answer-requires-clause-agrees : goal.alloc-answer-requires-clause-agrees
alloc-answer-requires-clause-agrees g c = let agrees = rw (← c.self.view_is) at c.requires.agrees in agrees_before buddy_is_named (handed_now g c) _ _ agrees

pub alloc-answer-requires-clause-counted : goal.alloc-answer-requires-clause-counted
alloc-answer-requires-clause-counted g c = counted_before buddy_is_named (handed_now g c)

-- What its answer comes to.

given : (g : Over) (c : After-alloc-answer g)
    → Handed buddy_named c.self.inside.limits c.self.inside.heaps.items c.self.inside.types.items c.self.inside.own c.self.inside.allocations_remains c.args.memory_type c.heap_index-heap.result c.index_mut.result.now c.in-Buddy.buddy c.index_mut-2.result.now
given g c = handed buddy_named c.self.inside.limits c.self.invariant (rw (← c.self.view_is) at c.requires.known) c.index_mut.ensures.value (ap buddy_in c.in-Buddy.is) c.heap_index-heap.ensures c.index_mut-2.ensures.value

is : (g : Over) (c : After-alloc-answer g) {answer : Result Leaf AllocationError} → c.alloc-answer.result ≡ answer → IsTried (given g c) g.D.ObjectDevice.step c.args.device.now c.alloc-answer.new.device InBuddyChunk c.args.request answer
    (account c.alloc-answer.new.buddy c.alloc-answer.new.heap c.alloc-answer.new.allocations_remains) (g.D.ObjectDevice.objects c.args.device.now) (g.D.ObjectDevice.objects c.alloc-answer.new.device)
is g c same =
    let agrees = rw (← c.self.view_is) at c.requires.agrees in
    let h = given g c in
    let request = buddy_request _ _ _ (serves buddy_is_named h.has) c.args.request c.index_mut-2.result.now _ _ c.flags-flags.ensures in
    told_as h (tried h buddy_is_named buddy_asked request (λ b. ap (λ sharing. is_chosen sharing BuddyChunk) (rw (← c.self.view_is) at c.requires.chosen)) agrees c.alloc-answer.ensures.sound c.alloc-answer.result c.alloc-answer.ensures.allocates c.alloc-answer.ensures.objects) same

-- A leaf becomes a block.

pub new-requires-3 : goal.new-requires-3
new-requires-3 g c = record { finish = ends buddy_is_named c.in-Ok.ensures.sound c.in-Ok.ensures.granted.inside c.into_parts-memory.ensures.leaf; some = some_atom _ _ _ c.self.invariant.books.usable.atom c.atom-atom.ensures }

pub invariant_of-self-2 : goal.invariant_of-self-2
invariant_of-self-2 g c = (is g (goal.at.invariant_of-self-2 g c).After-alloc-answer c.in-Ok.is).kept

-- It is what the try gives.

pub returns : goal.returns
returns g c =
    let it = is g (goal.at.returns g c).After-alloc-answer c.in-Ok.is in
    let block_is = c.new-3.ensures ∙ parts_are buddy_named (before (given g (goal.at.returns g c).After-alloc-answer)) c.args.memory_type c.into_parts-memory.ensures.handle c.into_parts-memory.ensures.leaf c.props-props.ensures c.atom-atom.ensures in
    rw (← c.self.view_is, block_is) (record { tries = it.tries; objects = it.objects })

-- And a refusal.

pub invariant_of-self : goal.invariant_of-self
invariant_of-self g c = (is g (goal.at.invariant_of-self g c).After-alloc-answer c.in-Err.is).kept

pub returns-in-Err : goal.returns-in-Err
returns-in-Err g c = let it = is g (goal.at.returns-in-Err g c).After-alloc-answer c.in-Err.is in rw (c.passing.ensures, ← c.self.view_is) (record { tries = it.tries; objects = it.objects })
