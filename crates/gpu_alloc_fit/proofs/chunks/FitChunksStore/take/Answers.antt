use Rattle.gpu_alloc_fit.specs.Fit.{FitState}
use Rattle.gpu_alloc_shared.specs.Sized.{sized}
use Rattle.gpu_alloc_fit.proofs.FitAnswers.{sound_taken, takes_so}
use Rattle.gpu_alloc_fit.proofs.chunks.FitChunksStore.take.Goals as goal

pub invariant_of-self : goal.invariant_of-self
invariant_of-self g c =
    let f : FitState = sized c.self.inside.fits.space c.self.inside.sizes in
    sound_taken f c.args.ask c.take-taken.new.self.space c.take-taken.result c.self.invariant (rw (← c.self.view_is) at c.requires.asked) c.keeps_sound.ensures c.take-taken.ensures.takes

pub returns-clause-takes : goal.returns-clause-takes
returns-clause-takes g c =
    let f : FitState = sized c.self.inside.fits.space c.self.inside.sizes in
    rw (← c.self.view_is) (takes_so f c.args.ask c.take-taken.new.self.space c.take-taken.result c.take-taken.ensures.takes)
