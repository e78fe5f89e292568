use Rattle.gpu_desk.proofs.Kept.{limited_is_kept}
use Rattle.gpu_desk.proofs.desk.Desk.set_heap_limit.Goals as goal

pub invariant_of-self : goal.invariant_of-self
invariant_of-self c =
    let done = rw c.set_heap_limit.ensures.set at c.set_heap_limit.ensures in
    rw c.set_heap_limit.ensures.set (record {
      kept = limited_is_kept c.args.heap c.args.limit c.self.invariant.kept done.owned (done.agrees.each c.self.inside.device.properties _ c.self.invariant.kept.sound.agrees) done.sound;
      tagged = c.self.invariant.tagged;
      page = c.self.invariant.page;
      paged = c.self.invariant.paged;
    })
