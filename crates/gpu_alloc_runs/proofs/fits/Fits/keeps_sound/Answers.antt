use Rattle.gpu_alloc_runs.proofs.Stored.{sound}
use Rattle.gpu_alloc_runs.proofs.fits.Fits.keeps_sound.Goals as goal

pub returns : goal.returns
returns g c = rw (← c.self.view_is) (sound g.M.MemoryObject.object c.self.inside.chunks c.self.inside.tiles c.self.invariant.stored.kept c.self.inside.spare c.self.invariant.stored)
