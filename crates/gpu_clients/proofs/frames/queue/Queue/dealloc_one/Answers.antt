use Rattle.std.proofs.Common.{length, ap, arith}
use Rattle.gpu_alloc_block.proofs.Lists.{leaves_others}
use Rattle.gpu_clients.proofs.frames.queue.Queue.dealloc_one.Goals as goal

pub returns-in-Some-clause-leaves : goal.returns-in-Some-clause-leaves
returns-in-Some-clause-leaves g c =
    rw (← c.self.view_is) (leaves_others c.dealloc.ensures.removed.properties c.dealloc.ensures.in_hand c.keeps_blocks.ensures.owned)

pub invariant_of-self : goal.invariant_of-self
invariant_of-self g c =
    let is = c.in-Some.ensures.items in
    let owned = rw is at c.self.invariant.owned in
    record {
      agrees = c.dealloc.ensures.agrees;
      owned = c.dealloc.ensures.removed.first _ owned;
      ready = c.dealloc.ensures.in_hand.first _ owned (rw is at c.self.invariant.ready);
      count = omega (arith, c.dealloc.ensures.removed.count, c.self.invariant.count, ap length is);
    }
