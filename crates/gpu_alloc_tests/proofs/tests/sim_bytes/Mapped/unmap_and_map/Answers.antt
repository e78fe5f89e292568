use Rattle.std.proofs.Common.{subst}
use Rattle.gpu_alloc_types.specs.Device.Event.{Mapped}
use Rattle.gpu_sim.specs.Sim.{SimStep}
use Rattle.gpu_alloc_tests.proofs.Ready.{after_unmap, after_map, mappable}
use Rattle.gpu_alloc_tests.proofs.tests.sim_bytes.Mapped.unmap_and_map.Goals as goal

pub map_memory-requires : goal.map_memory-requires
map_memory-requires g c =
    mappable c.unmap_memory.new.self c.self.inside.memory
    (after_unmap c.self.inside.sim c.unmap_memory.new.self c.self.inside.memory c.unmap_memory.ensures c.self.invariant)

pub invariant_of-self : goal.invariant_of-self
invariant_of-self g c =
    let mid = c.unmap_memory.new.self in
    let new = c.map_memory.new.self in
    let name = c.self.inside.memory in
    let mapped = subst (λ r. SimStep mid (Mapped (record { object = name; offset = 0; size = 8 }) r) new) c.expect.ensures c.map_memory.ensures in
    after_map mid new name c.expect.result mapped (after_unmap c.self.inside.sim mid name c.unmap_memory.ensures c.self.invariant)
