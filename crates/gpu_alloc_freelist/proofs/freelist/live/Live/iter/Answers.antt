use Rattle.std.proofs.Common.{refl}
use Rattle.gpu_alloc_freelist.proofs.freelist.live.Live.iter.Goals as goal

pub returns : goal.returns
returns g c = rw (← c.self.view_is) (record { slots = c.self.inside.slots; are = c.iter.ensures.rest; once = c.self.invariant; exact = refl })
