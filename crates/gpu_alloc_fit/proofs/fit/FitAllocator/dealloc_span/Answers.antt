use Rattle.gpu_alloc_fit.proofs.fit.FitAllocator.dealloc_span.Goals as goal

pub returns-clause-frees : goal.returns-clause-frees
returns-clause-frees g c = rw (← c.self.view_is) c.dealloc.ensures.frees
