use Rattle.gpu_alloc_base.specs.declared.free_list_block.Slot.{Slot}
use Rattle.gpu_alloc_fit.specs.Fit.{FitState}
use Rattle.gpu_alloc_runs.specs.Space.{IsLiveFitSpan}
use Rattle.gpu_alloc_shared.specs.Sized.{sized}
use Rattle.gpu_alloc_fit.proofs.FitReturns.{goes_so, sound_returned, stays_so}
use Rattle.gpu_alloc_fit.proofs.chunks.FitChunksStore.put_back.Given.{Over}
use Rattle.gpu_alloc_fit.proofs.chunks.FitChunksStore.put_back.Goals.{After-keeps_sound}
use Rattle.gpu_alloc_fit.proofs.chunks.FitChunksStore.put_back.Goals as goal

abbrev old : (g : Over) → After-keeps_sound g → FitState
old g c = sized c.self.inside.fits.space c.self.inside.sizes

abbrev Is : (g : Over) → After-keeps_sound g → Slot → Type 0
Is g c slot = IsLiveFitSpan (old g c).space (g.M.MemoryObject.object c.args.returned.memory) c.args.returned.offset c.args.returned.size slot

pub invariant_of-self : goal.invariant_of-self
invariant_of-self g c =
    let live = rw (← c.self.view_is) at c.requires.live in
    sound_returned g.M.MemoryObject.object (old g c) c.put_back_span-gone.new.self.space (Is g c) c.self.invariant c.keeps_sound.ensures live.0 c.put_back_span-gone.result (c.put_back_span-gone.ensures.back live.0 live.1)

pub returns-clause-stays : goal.returns-clause-stays
returns-clause-stays g c = rw (← c.self.view_is) (stays_so g.M.MemoryObject.object (old g c) c.put_back_span-gone.new.self.space (Is g c) c.put_back_span-gone.result c.put_back_span-gone.ensures.back)

pub returns-clause-goes : goal.returns-clause-goes
returns-clause-goes g c = rw (← c.self.view_is) (goes_so g.M.MemoryObject.object (old g c) c.put_back_span-gone.new.self.space (Is g c) c.put_back_span-gone.result c.put_back_span-gone.ensures.back)
