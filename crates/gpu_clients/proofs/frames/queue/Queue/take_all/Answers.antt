use Rattle.std.proofs.Common.{ap, take, ◌∙◌, arith}
use Rattle.gpu_alloc.proofs.Served.{first_ones, serves_as_many, serves_next}
use Rattle.gpu_alloc_block.proofs.Lists.{leaves_then, leaves_front}
use Rattle.gpu_clients.proofs.frames.queue.Queue.take_all.Goals as goal

pub loop-request-preserved : goal.loop-request-preserved
loop-request-preserved g c =
    let i = c.loop-request.invariant in
    let leaves = leaves_then i.leaves (leaves_front _ _ i.served.grown c.in_default.ensures.leaves) in
    record { served = serves_next _ _ _ c.loop-request-test.true i.served c.in_default.ensures.taken; leaves = leaves }

pub returns-clause-grown : goal.returns-clause-grown
returns-clause-grown g c = omega (arith, serves_as_many c.loop-request.invariant.served c.loop-request.auto.request-index-end)

pub returns-in-Err-clause-leaves : goal.returns-in-Err-clause-leaves
returns-in-Err-clause-leaves g c =
    let i = c.loop-request.invariant in
    let same = c.dealloc_after.ensures.blocks ∙ ap (take c.len-count.result) c.in-Err.ensures.refused ∙ first_ones i.served c.len-count.ensures in
    let until = leaves_then i.leaves (leaves_front _ _ i.served.grown c.in-Err.ensures.leaves) in
    leaves_then until (rw same at c.dealloc_after.ensures.leaves)
