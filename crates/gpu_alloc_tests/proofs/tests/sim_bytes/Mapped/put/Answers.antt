use Rattle.gpu_alloc_tests.proofs.Ready.{after_put}
use Rattle.gpu_alloc_tests.proofs.tests.sim_bytes.Mapped.put.Goals as goal

pub invariant_of-self : goal.invariant_of-self
invariant_of-self g c =
    after_put c.self.inside.sim c.put_bytes.new.self c.self.inside.memory c.args.offset c.args.bytes.now c.put_bytes.ensures c.self.invariant
