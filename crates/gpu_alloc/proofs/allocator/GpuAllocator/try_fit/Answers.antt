use Rattle.std.proofs.Common.{◌≡◌, Result, refl, ap, ◌∙◌, arith}
use Rattle.gpu_alloc_base.specs.Accounts.{account}
use Rattle.gpu_alloc_base.specs.declared.free_list_block.Slot.{Slot}
use Rattle.gpu_alloc_base.specs.declared.error.AllocationError.{AllocationError}
use Rattle.gpu_alloc_block.specs.declared.block.Kind.TheVariants.{FitChunk}
use Rattle.gpu_alloc.specs.Sound.{is_chosen}
use Rattle.gpu_alloc.specs.declared.allocator.Strategy.TheVariants.{InFitChunk}
use Rattle.gpu_alloc.proofs.Atoms.{some_atom}
use Rattle.gpu_alloc.proofs.Fits.Named.{fit_asked, fit_in, fit_is_named, fit_named, fit_request, fits_fit}
use Rattle.gpu_alloc.proofs.Shared.Calls.{Handed, agrees_before, before, counted_before, handed, serves}
use Rattle.gpu_alloc.proofs.Shared.Tries.{IsTried, addressed, ends, parts_are, told_as, tried}
use Rattle.gpu_alloc.proofs.allocator.GpuAllocator.try_fit.Given.{Over}
use Rattle.gpu_alloc.proofs.allocator.GpuAllocator.try_fit.Goals.{After-alloc_fit-answer}
use Rattle.gpu_alloc.proofs.allocator.GpuAllocator.try_fit.Goals as goal

-- What the allocator of fit chunks is handed.

pub alloc_fit-answer-requires : goal.alloc_fit-answer-requires
alloc_fit-answer-requires g c =
    let fits = rw (← c.self.view_is) at c.requires.fits in
    let agrees = rw (← c.self.view_is) at c.requires.agrees in
    let h = handed fit_named c.self.inside.limits c.self.invariant (rw (← c.self.view_is) at c.requires.known) c.index_mut.ensures.value (ap fit_in c.in-Fit.is) c.heap_index-heap.ensures c.index_mut-2.ensures.value in
    record {
      begins = (refl, refl, omega (arith, c.new.ensures));
      nonempty = c.requires.askable.nonempty;
      fits = fits_fit _ _ _ (serves fit_is_named h.has) c.args.request fits;
      alignment = c.requires.askable.alignment;
      address = addressed h agrees c.flags-flags.ensures;
      agrees = agrees_before fit_is_named h _ _ agrees;
      counted = counted_before fit_is_named h;
    }

given : (g : Over) (c : After-alloc_fit-answer g)
    → Handed fit_named c.self.inside.limits c.self.inside.heaps.items c.self.inside.types.items c.self.inside.own c.self.inside.allocations_remains c.args.memory_type c.heap_index-heap.result c.index_mut.result.now c.in-Fit.fit c.index_mut-2.result.now
given g c = handed fit_named c.self.inside.limits c.self.invariant (rw (← c.self.view_is) at c.requires.known) c.index_mut.ensures.value (ap fit_in c.in-Fit.is) c.heap_index-heap.ensures c.index_mut-2.ensures.value

-- What comes of its answer, whatever it is.

is : (g : Over) (c : After-alloc_fit-answer g) {answer : Result Slot AllocationError} → c.alloc_fit-answer.result ≡ answer → IsTried (given g c) g.D.ObjectDevice.step c.args.device.now c.alloc_fit-answer.new.device InFitChunk c.args.request answer
    (account c.alloc_fit-answer.new.fits c.alloc_fit-answer.new.heap c.alloc_fit-answer.new.allocations_remains) (g.D.ObjectDevice.objects c.args.device.now) (g.D.ObjectDevice.objects c.alloc_fit-answer.new.device)
is g c same =
    let agrees = rw (← c.self.view_is) at c.requires.agrees in
    let h = given g c in
    let request = fit_request _ _ _ (serves fit_is_named h.has) c.args.request c.index_mut-2.result.now _ _ c.requires.askable.nonempty c.flags-flags.ensures in
    told_as h (tried h fit_is_named fit_asked request (λ b. ap (λ sharing. is_chosen sharing FitChunk) (rw (← c.self.view_is) at c.requires.chosen)) agrees c.alloc_fit-answer.ensures.sound c.alloc_fit-answer.result c.alloc_fit-answer.ensures.allocates c.alloc_fit-answer.ensures.objects) same

-- A grant: the block of its slot.

pub new-requires-2 : goal.new-requires-2
new-requires-2 g c = record { finish = ends fit_is_named c.in-Ok.ensures.sound c.in-Ok.ensures.granted.inside c.into_parts-memory.ensures.slot; some = some_atom _ _ _ c.self.invariant.books.usable.atom c.atom-atom.ensures }

pub invariant_of-self-2 : goal.invariant_of-self-2
invariant_of-self-2 g c = (is g (goal.at.invariant_of-self-2 g c).After-alloc_fit-answer c.in-Ok.is).kept

-- So the try gives it.

pub returns : goal.returns
returns g c =
    let it = is g (goal.at.returns g c).After-alloc_fit-answer c.in-Ok.is in
    let block_is = c.new-2.ensures ∙ parts_are fit_named (before (given g (goal.at.returns g c).After-alloc_fit-answer)) c.args.memory_type c.into_parts-memory.ensures.handle c.into_parts-memory.ensures.slot c.props-props.ensures c.atom-atom.ensures in
    rw (← c.self.view_is, block_is) (record { tries = it.tries; objects = it.objects })

-- Where it refuses, the fields stay as they were.

pub invariant_of-self : goal.invariant_of-self
invariant_of-self g c = (is g (goal.at.invariant_of-self g c).After-alloc_fit-answer c.in-Err.is).kept

pub returns-in-Err : goal.returns-in-Err
returns-in-Err g c = let it = is g (goal.at.returns-in-Err g c).After-alloc_fit-answer c.in-Err.is in rw (c.passing.ensures, ← c.self.view_is) (record { tries = it.tries; objects = it.objects })
