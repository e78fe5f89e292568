use Rattle.std.proofs.Common.{◌∙◌}
use Rattle.gpu_clients.proofs.frames.queue.Queue.end.Goals as goal

pub returns : goal.returns
returns g c = λ name. c.close.ensures.beside name ∙ rw (← c.self.view_is) at (c.dealloc_after.ensures.leaves.outside name)
