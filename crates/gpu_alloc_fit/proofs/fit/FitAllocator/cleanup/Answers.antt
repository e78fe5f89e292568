use Rattle.gpu_alloc_fit.proofs.FitReturns.{no_rest}
use Rattle.gpu_alloc_fit.proofs.fit.FitAllocator.cleanup.Goals as goal

pub returns-clause-cleans : goal.returns-clause-cleans
returns-clause-cleans g c = rw (← c.self.view_is) c.release_next.ensures.releases

pub returns-clause-rest : goal.returns-clause-rest
returns-clause-rest g c =
    rw (← c.self.view_is) (c.release_next.ensures.live, record { held = no_rest c.self.inside.store.state.space c.release_next.new.store.state.space c.release_next.ensures.live c.release_next.ensures.left })
