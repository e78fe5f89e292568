use Rattle.std.proofs.Common.{ap, ◌∙◌}
use Rattle.gpu_alloc_runs.specs.Fits.{FitStore}
use Rattle.gpu_alloc_runs.proofs.Stored.{same_space, store_same}
use Rattle.gpu_alloc_runs.proofs.fits.Fits.reserve.Goals as goal

pub invariant_of-self-2 : goal.invariant_of-self-2
invariant_of-self-2 g c =
    store_same g.M.MemoryObject.object c.self.inside.chunks c.reserve.new.self c.self.inside.tiles c.reserve-2.new.self (ap (λ s. s.slots) c.reserve.ensures.rest_kept) (ap (λ s. s.slots) c.reserve-2.ensures.rest_kept)
    c.self.inside.classes c.self.inside.spare c.self.invariant

pub returns-clause-kept : goal.returns-clause-kept
returns-clause-kept g c =
    same_space g.M.MemoryObject.object c.self.inside.chunks c.reserve.new.self c.self.inside.tiles c.reserve-2.new.self (ap (λ s. s.slots) c.reserve.ensures.rest_kept) (ap (λ s. s.slots) c.reserve-2.ensures.rest_kept)
    ∙ ap (λ (s : FitStore). s.space) c.self.view_is
