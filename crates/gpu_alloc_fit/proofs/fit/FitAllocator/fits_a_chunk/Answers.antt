use Rattle.gpu_alloc_shared.proofs.Sized.{sizes_of}
use Rattle.gpu_alloc_fit.proofs.fit.FitAllocator.fits_a_chunk.Goals as goal

pub fits_a_chunk-requires : goal.fits_a_chunk-requires
fits_a_chunk-requires g c = sizes_of _ c.self-inside.invariant

pub returns : goal.returns
returns g c = rw (← c.self.view_is, ← c.self-inside.view_is) c.fits_a_chunk.ensures
