use Rattle.std.proofs.Common.{arith}
use Rattle.gpu_alloc_block.proofs.Lists.{firsts_stay, leaves_then, leaves_front}
use Rattle.gpu_clients.proofs.frames.queue.Queue.dealloc_after.Goals as goal

pub loop-self-preserved : goal.loop-self-preserved
loop-self-preserved g c =
    let back = c.dealloc_last.ensures in
    let leaves = leaves_then (leaves_front _ _ back.blocks.1 c.loop-self.invariant.leaves) back.leaves in
    record { blocks = firsts_stay c.args.count _ back.blocks (omega arith) c.loop-self.invariant.blocks; leaves = leaves }
