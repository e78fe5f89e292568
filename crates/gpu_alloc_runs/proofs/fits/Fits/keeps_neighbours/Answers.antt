use Rattle.gpu_alloc_runs.proofs.Neighbours.{touched}
use Rattle.gpu_alloc_runs.proofs.fits.Fits.keeps_neighbours.Goals as goal

pub returns : goal.returns
returns g c = rw (← c.self.view_is) (touched g.M.MemoryObject.object c.self.inside.chunks c.self.inside.tiles c.self.invariant.stored.kept)
