use Rattle.gpu_alloc_block.proofs.Lists.{leaves_others}
use Rattle.gpu_clients.proofs.frames.queue.Queue.dealloc_last.Goals as goal

pub returns-in-Some-clause-leaves : goal.returns-in-Some-clause-leaves
returns-in-Some-clause-leaves g c =
    rw (← c.self.view_is) (leaves_others c.dealloc.ensures.removed.properties c.dealloc.ensures.in_hand c.keeps_blocks.ensures.owned)
