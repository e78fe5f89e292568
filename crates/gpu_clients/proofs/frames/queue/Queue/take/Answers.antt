use Rattle.gpu_alloc_block.proofs.Lists.{leaves_owned}
use Rattle.gpu_clients.proofs.frames.queue.Queue.take.Goals as goal

pub returns-in-Ok-clause-leaves : goal.returns-in-Ok-clause-leaves
returns-in-Ok-clause-leaves g c =
    rw (← c.self.view_is) (leaves_owned c.alloc.ensures.leaves.properties c.alloc.ensures.in_hand c.self.invariant.owned)
