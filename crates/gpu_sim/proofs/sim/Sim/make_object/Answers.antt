use Rattle.gpu_sim.proofs.SimSound.{sound-made}
use Rattle.gpu_sim.proofs.sim.Sim.make_object.Goals as goal

pub invariant_of-self-2 : goal.invariant_of-self-2
invariant_of-self-2 g c =
    rw (c.in_ok-insert.ensures.ok, c.in_ok-object.ensures)
    (sound-made c.self.inside.last_name c.self.inside.properties c.self.inside.objects c.self.invariant c.args.size c.args.memory_type)
