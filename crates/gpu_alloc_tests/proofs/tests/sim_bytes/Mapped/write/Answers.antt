use Rattle.std.proofs.Common.{◌≡◌, true, subst}
use Rattle.gpu_sim.specs.Sim.{CommandWrites}
use Rattle.gpu_alloc_tests.proofs.Ready.{after_write}
use Rattle.gpu_alloc_tests.proofs.tests.sim_bytes.Mapped.write.Goals as goal

pub invariant_of-self : goal.invariant_of-self
invariant_of-self c =
    let old = c.self.inside.sim in
    let new = c.gpu_write.new.self in
    after_write old new c.self.inside.memory c.args.offset c.args.bytes.now c.gpu_write.result
    (subst (λ name. c.gpu_write.result ≡ true → CommandWrites old name c.args.offset c.args.bytes.now new) c.object-name.ensures c.gpu_write.ensures.written)
    c.gpu_write.ensures.refused c.self.invariant
