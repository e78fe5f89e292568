use Rattle.std.proofs.Common.{subst, sym}
use Rattle.gpu_alloc_fit.specs.Fit.{FitState}
use Rattle.gpu_alloc_shared.specs.Rule.{IsUnheldIn}
use Rattle.gpu_alloc_shared.specs.Sized.{sized}
use Rattle.gpu_alloc_shared.proofs.Sized.{whole_holds}
use Rattle.gpu_alloc_fit.proofs.FitAnswers.{sound_begun}
use Rattle.gpu_alloc_fit.proofs.chunks.FitChunksStore.begin.Goals as goal

pub begin-block-requires-clause-inside : goal.begin-block-requires-clause-inside
begin-block-requires-clause-inside g c = (whole_holds (sized c.self.inside.fits.space c.self.inside.sizes) c.args.ask.size c.args.whole c.self.invariant c.requires.asked.nonempty (rw (← c.self.view_is) at c.requires.size.1.0) (rw (← c.self.view_is) at c.requires.size.1.1)).0

pub begin-block-requires-clause-new_object : goal.begin-block-requires-clause-new_object
begin-block-requires-clause-new_object g c = rw (← c.self.view_is) at c.requires.new_object

pub grow-requires-clause-bound : goal.grow-requires-clause-bound
grow-requires-clause-bound g c = (whole_holds (sized c.self.inside.fits.space c.self.inside.sizes) c.args.ask.size c.args.whole c.self.invariant c.requires.asked.nonempty (rw (← c.self.view_is) at c.requires.size.1.0) (rw (← c.self.view_is) at c.requires.size.1.1)).1.0

pub invariant_of-self : goal.invariant_of-self
invariant_of-self g c =
    let f : FitState = sized c.self.inside.fits.space c.self.inside.sizes in
    let other : IsUnheldIn f.space.chunks c.begin-block.result.object = subst (IsUnheldIn f.space.chunks) (sym c.begin-block.ensures.object) (rw (← c.self.view_is) at c.requires.new_object) in
    rw (c.grow.ensures) (sound_begun f c.args.ask c.begin-block.result c.args.whole c.begin-block.new.self.space c.self.invariant c.begin-block.ensures.space c.keeps_sound.ensures other (rw (← c.self.view_is) at c.requires.asked)
    (rw (← c.self.view_is) at c.requires.size.1.0) (rw (← c.self.view_is) at c.requires.size.1.1) c.begin-block.ensures.begins)
