use Rattle.std.proofs.Common.{length, sym, subst, refl}
use Rattle.std.specs.FinMap as map
use Rattle.gpu_alloc_types.specs.Device.{HeldWith, IsInMapped}
use Rattle.gpu_sim.specs.ObjectLaws.{put_by_host_is_whole}
use Rattle.gpu_sim.specs.Objects.{ChangesAt, HasRange, put_by_host}
use Rattle.gpu_sim.specs.Sim.{objects_of}
use Rattle.gpu_sim.proofs.Asked.{mapped_has}
use Rattle.gpu_sim.proofs.SimSound.{sound-changed}
use Rattle.gpu_sim.proofs.sim.SimMemoryDeviceSimMemory.put_bytes.Goals as goal

pub put-requires : goal.put-requires
put-requires g c =
    let held = subst (λ sim. HeldWith (objects_of sim) c.args.memory.now (IsInMapped c.args.offset (length c.args.bytes.now))) (sym c.self.view_is) c.requires in
    subst (λ name. HeldWith (map.get c.self.inside.objects) name (HasRange c.args.offset (length c.args.bytes.now))) (sym c.object.ensures)
    (mapped_has c.self.inside.properties c.self.inside.objects c.self.invariant.whole c.args.memory.now c.args.offset (length c.args.bytes.now) held)

pub invariant_of-self : goal.invariant_of-self
invariant_of-self g c =
    sound-changed c.self.inside.last_name c.self.inside.properties (HasRange c.args.offset (length c.args.bytes.now)) _
    (λ o w has. put_by_host_is_whole c.args.offset c.args.bytes.now c.self.inside.properties o w has)
    c.self.inside.objects c.object.result c.put.new.self c.put.ensures c.self.invariant

pub returns : goal.returns
returns g c =
    let change = subst (λ name. ChangesAt (HasRange c.args.offset (length c.args.bytes.now)) (put_by_host c.self.inside.properties c.args.offset c.args.bytes.now) c.self.inside.objects name c.put.new.self) c.object.ensures c.put.ensures in
    rw (← c.self.view_is) (c.self.invariant, (c.put.new.self, change, refl))
