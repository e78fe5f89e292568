use Rattle.std.proofs.Common.{None, sym, subst, refl}
use Rattle.std.specs.FinMap as map
use Rattle.gpu_alloc_types.specs.Device.{HeldWith, IsMapped}
use Rattle.gpu_sim.specs.ObjectLaws.{mapped_is_whole, held_once_shown}
use Rattle.gpu_sim.specs.Objects.{ChangesAt, HasBytes, mapped_as}
use Rattle.gpu_sim.specs.Sim.{objects_of}
use Rattle.gpu_sim.proofs.SimSound.{sound-changed}
use Rattle.gpu_sim.proofs.sim.SimMemoryDeviceSimMemory.unmap_memory.Goals as goal

pub set_mapped-requires : goal.set_mapped-requires
set_mapped-requires g c =
    let held = subst (λ sim. HeldWith (objects_of sim) c.args.memory.now IsMapped) (sym c.self.view_is) c.requires in
    subst (λ name. HeldWith (map.get c.self.inside.objects) name (HasBytes None)) (sym c.object.ensures)
    (held.0, held_once_shown c.self.inside.properties c.self.inside.objects c.args.memory.now held.0 held.1, tt)

pub invariant_of-self : goal.invariant_of-self
invariant_of-self g c =
    sound-changed c.self.inside.last_name c.self.inside.properties (HasBytes None) (mapped_as None)
    (λ o w has. mapped_is_whole c.self.inside.properties o w None has)
    c.self.inside.objects c.object.result c.set_mapped.new.self c.set_mapped.ensures c.self.invariant

pub returns : goal.returns
returns g c =
    let change = subst (λ name. ChangesAt (HasBytes None) (mapped_as None) c.self.inside.objects name c.set_mapped.new.self) c.object.ensures c.set_mapped.ensures in
    rw (← c.self.view_is) (c.self.invariant, (c.set_mapped.new.self, change, refl))
