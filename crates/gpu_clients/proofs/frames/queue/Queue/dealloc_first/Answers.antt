use Rattle.std.proofs.Common.{drop, ◌∙◌, ap}
use Rattle.std.proofs.lemmas.List.{drop-drop}
use Rattle.gpu_alloc_block.proofs.Lists.{leaves_then, leaves_dropped}
use Rattle.gpu_clients.proofs.frames.queue.Queue.dealloc_first.Goals as goal

pub loop-preserved : goal.loop-preserved
loop-preserved g c =
    let back = c.dealloc_one.ensures in
    let leaves = leaves_then (leaves_dropped back.blocks c.loop.invariant.leaves) back.leaves in
    record { blocks = back.blocks ∙ ap (drop 1) c.loop.invariant.blocks ∙ drop-drop 1 c.loop.counter _; leaves = leaves }
