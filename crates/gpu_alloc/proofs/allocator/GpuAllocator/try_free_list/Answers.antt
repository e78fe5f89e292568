use Rattle.std.proofs.Common.{◌≡◌, Result, refl, ◌∙◌}
use Rattle.gpu_alloc_base.specs.Accounts.{account}
use Rattle.gpu_alloc_base.specs.declared.free_list_block.Slot.{Slot}
use Rattle.gpu_alloc_base.specs.declared.error.AllocationError.{AllocationError}
use Rattle.gpu_alloc.specs.declared.allocator.Strategy.TheVariants.{InFreeList}
use Rattle.gpu_alloc.proofs.Atoms.{some_atom}
use Rattle.gpu_alloc.proofs.FreeLists.Named.{fits_list, list_asked, list_is_named, list_named, list_request}
use Rattle.gpu_alloc.proofs.Shared.Calls.{Handed, agrees_before, before, counted_before, handed, serves}
use Rattle.gpu_alloc.proofs.Shared.Tries.{IsTried, addressed, ends, parts_are, told_as, tried}
use Rattle.gpu_alloc.proofs.allocator.GpuAllocator.try_free_list.Given.{Over}
use Rattle.gpu_alloc.proofs.allocator.GpuAllocator.try_free_list.Goals.{After-alloc-answer}
use Rattle.gpu_alloc.proofs.allocator.GpuAllocator.try_free_list.Goals as goal

-- What the free list is handed.

pub alloc-answer-requires : goal.alloc-answer-requires
alloc-answer-requires g c =
    let fits = rw (← c.self.view_is) at c.requires.fits in
    let agrees = rw (← c.self.view_is) at c.requires.agrees in
    let h = handed list_named c.self.inside.limits c.self.invariant (rw (← c.self.view_is) at c.requires.known) c.index_mut.ensures.value refl c.heap_index-heap.ensures c.index_mut-2.ensures.value in
    record {
      fits = fits_list _ _ _ (serves list_is_named h.has) c.args.request fits;
      nonempty = c.requires.askable.nonempty;
      alignment = c.requires.askable.alignment;
      address = addressed h agrees c.flags-flags.ensures;
      agrees = agrees_before list_is_named h _ _ agrees;
      counted = counted_before list_is_named h;
    }

-- What the free list's answer comes to.

given : (g : Over) (c : After-alloc-answer g)
    → Handed list_named c.self.inside.limits c.self.inside.heaps.items c.self.inside.types.items c.self.inside.own c.self.inside.allocations_remains c.args.memory_type c.heap_index-heap.result c.index_mut.result.now c.index_mut.result.now.free_list c.index_mut-2.result.now
given g c = handed list_named c.self.inside.limits c.self.invariant (rw (← c.self.view_is) at c.requires.known) c.index_mut.ensures.value refl c.heap_index-heap.ensures c.index_mut-2.ensures.value

is : (g : Over) (c : After-alloc-answer g) {answer : Result Slot AllocationError} → c.alloc-answer.result ≡ answer → IsTried (given g c) g.D.ObjectDevice.step c.args.device.now c.alloc-answer.new.device InFreeList c.args.request answer
    (account c.alloc-answer.new.self c.alloc-answer.new.heap c.alloc-answer.new.allocations_remains) (g.D.ObjectDevice.objects c.args.device.now) (g.D.ObjectDevice.objects c.alloc-answer.new.device)
is g c same =
    let agrees = rw (← c.self.view_is) at c.requires.agrees in
    let request = list_request _ _ _ (serves list_is_named (given g c).has) c.args.request c.index_mut-2.result.now _ _ c.flags-flags.ensures in
    told_as (given g c) (tried (given g c) list_is_named list_asked request (λ b. refl) agrees c.alloc-answer.ensures.sound c.alloc-answer.result c.alloc-answer.ensures.allocates c.alloc-answer.ensures.objects) same

-- A slot that it grants is a block.

pub new-requires : goal.new-requires
new-requires g c = record { finish = ends list_is_named c.in-Ok.ensures.sound c.in-Ok.ensures.granted.inside c.into_parts-memory.ensures.slot; some = some_atom _ _ _ c.self.invariant.books.usable.atom c.atom-atom.ensures }

pub invariant_of-self-2 : goal.invariant_of-self-2
invariant_of-self-2 g c = (is g (goal.at.invariant_of-self-2 g c).After-alloc-answer c.in-Ok.is).kept

-- The call gives it.

pub returns : goal.returns
returns g c =
    let it = is g (goal.at.returns g c).After-alloc-answer c.in-Ok.is in
    let block_is = c.new.ensures ∙ parts_are list_named (before (given g (goal.at.returns g c).After-alloc-answer)) c.args.memory_type c.into_parts-memory.ensures.handle c.into_parts-memory.ensures.slot c.props-props.ensures c.atom-atom.ensures in
    rw (← c.self.view_is, block_is) (record { tries = it.tries; objects = it.objects })

-- A refusal leaves all as it was.

pub invariant_of-self : goal.invariant_of-self
invariant_of-self g c = (is g (goal.at.invariant_of-self g c).After-alloc-answer c.in-Err.is).kept

pub returns-in-Err : goal.returns-in-Err
returns-in-Err g c = let it = is g (goal.at.returns-in-Err g c).After-alloc-answer c.in-Err.is in rw (c.passing.ensures, ← c.self.view_is) (record { tries = it.tries; objects = it.objects })
