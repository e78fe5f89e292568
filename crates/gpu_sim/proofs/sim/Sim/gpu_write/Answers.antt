use Rattle.std.proofs.Common.{length, sym, subst, refl}
use Rattle.gpu_alloc_types.specs.Device.{HeldWith}
use Rattle.gpu_sim.specs.ObjectLaws.{put_by_device_is_whole}
use Rattle.gpu_sim.specs.Objects.{HasRange}
use Rattle.gpu_sim.specs.Sim.{IsWritable, objects_of}
use Rattle.gpu_sim.proofs.Asked.{writable_has}
use Rattle.gpu_sim.proofs.SimSound.{sound-changed}
use Rattle.gpu_sim.proofs.sim.Sim.gpu_write.Goals as goal

pub write-requires : goal.write-requires
write-requires g c =
    let held = subst (λ sim. HeldWith (objects_of sim) c.args.object (IsWritable sim.properties c.args.offset (length c.args.data.now))) (sym c.self.view_is)
    (c.can_write.ensures.0 c.if-not-can_write.false) in
    writable_has c.self.inside.properties c.self.inside.objects c.self.invariant.whole c.args.object c.args.offset (length c.args.data.now) held

pub invariant_of-self : goal.invariant_of-self
invariant_of-self g c =
    sound-changed c.self.inside.last_name c.self.inside.properties (HasRange c.args.offset (length c.args.data.now)) _
    (λ o w has. put_by_device_is_whole c.args.offset c.args.data.now c.self.inside.properties o w has)
    c.self.inside.objects c.args.object c.write.new.self c.write.ensures c.self.invariant

pub returns-clause-written : goal.returns-clause-written
returns-clause-written g c = λ yes. rw (← c.self.view_is) (c.self.invariant, (c.write.new.self, c.write.ensures, refl))
