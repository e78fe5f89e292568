use Rattle.std.proofs.Common.{◌∙◌, sym}
use Rattle.gpu_alloc.proofs.Tables.OwnRows.{held_len}
use Rattle.gpu_alloc.proofs.own.OwnObjects.len.Goals as goal

pub returns : goal.returns
returns g c = rw (← c.self.view_is) (c.len.ensures ∙ sym (held_len c.self.inside.rows c.self.invariant))
