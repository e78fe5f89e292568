use Rattle.std.proofs.Common.{◌∙◌, Some, ap, refl, subst, sym}
use Rattle.gpu_alloc_types.specs.Device.{HeldWith, IsMappable}
use Rattle.gpu_answers.specs.Asking.{AsksInRun, map_question}
use Rattle.gpu_answers.specs.Device.{objects_of}
use Rattle.gpu_answers.proofs.Rows.{mapped_row}
use Rattle.gpu_answers.proofs.device.AnsweredDeviceObjectDeviceObjectName.map_memory.Goals as goal

pub returns-in-Some-Granted : goal.returns-in-Some-Granted
returns-in-Some-Granted c =
    let new = c.set_mapped.new.self.objects in
    let told = subst (λ told. AsksInRun c.self.inside.run (map_question c.self.inside.run.made c.args.memory.now c.args.offset c.args.size) told c.ask_to_map.new.self)
    (c.in-Some-Granted.is ∙ ap (λ a. Some a) c.in-Some-Granted.field-0-is)
    (subst (λ name. AsksInRun c.self.inside.run (map_question c.self.inside.run.made name c.args.offset c.args.size) c.ask_to_map.result c.ask_to_map.new.self) c.object.ensures c.ask_to_map.ensures) in
    let held = subst (λ s. HeldWith (objects_of s) c.args.memory.now (IsMappable s.properties c.args.offset c.args.size)) (sym c.self.view_is) c.requires in
    rw (← c.self.view_is) (record {
      row = mapped_row c.self.inside.properties c.self.inside.held.objects _ new held
          c.set_mapped.ensures.objects;
      offers = refl;
      answers = told;
      names = (c.set_mapped.ensures.last_name, c.set_mapped.ensures.gone);
    })
