use Rattle.gpu_sim.proofs.SimSound.{sound-removed}
use Rattle.gpu_sim.proofs.sim.SimMemoryDeviceSimMemory.deallocate_memory.Goals as goal

pub invariant_of-self : goal.invariant_of-self
invariant_of-self g c =
    rw c.remove.ensures (sound-removed c.self.inside.last_name c.self.inside.properties c.self.inside.objects c.self.invariant _)
