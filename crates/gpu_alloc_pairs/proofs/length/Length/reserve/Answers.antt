use Rattle.std.proofs.Common.{ap}
use Rattle.slab.specs.Slab.{get}
use Rattle.gpu_alloc_pairs.proofs.Links.{still_linked}
use Rattle.gpu_alloc_pairs.proofs.length.Length.reserve.Goals as goal

pub invariant_of-self : goal.invariant_of-self
invariant_of-self g c =
    still_linked c.self.inside.pairs c.reserve.new.self c.self.inside.first
    (λ k. ap (λ s. get s k) c.reserve.ensures.rest_kept) c.self.invariant
