use Rattle.std.proofs.Common.{refl}
use Rattle.gpu_alloc_freelist.proofs.FiledRows.{filed_once}
use Rattle.gpu_alloc_freelist.proofs.freelist.chunks.Chunks.iter.Goals as goal

pub returns : goal.returns
returns g c =
    rw (← c.self.view_is) (record { rows = c.self.inside.rows; are = c.iter.ensures.rest; once = filed_once c.self.inside.rows c.self.inside.numbers.items c.self.invariant; exact = refl })
