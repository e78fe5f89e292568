use Rattle.gpu_alloc_fit.specs.Fit.{FitState}
use Rattle.gpu_alloc_shared.specs.Sized.{sized}
use Rattle.gpu_alloc_fit.proofs.FitReturns.{sound_cleaned}
use Rattle.gpu_alloc_fit.proofs.chunks.FitChunksStore.take_whole.Goals as goal

pub invariant_of-self-2 : goal.invariant_of-self-2
invariant_of-self-2 g c =
    let f : FitState = sized c.self.inside.fits.space c.self.inside.sizes in
    sound_cleaned _ _ _ f c.take_whole-gone.result c.take_whole-gone.new.self.space c.self.invariant c.keeps_sound.ensures (λ gone. gone.2) c.take_whole-gone.ensures.none c.take_whole-gone.ensures.some
