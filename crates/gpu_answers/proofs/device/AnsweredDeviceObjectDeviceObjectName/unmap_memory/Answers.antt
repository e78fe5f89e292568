use Rattle.std.proofs.Common.{refl}
use Rattle.gpu_answers.proofs.Rows.{unmapped_row}
use Rattle.gpu_answers.proofs.device.AnsweredDeviceObjectDeviceObjectName.unmap_memory.Goals as goal

pub returns : goal.returns
returns c =
    let new = c.set_mapped.new.self.objects in
    rw (← c.self.view_is) (record {
      row = unmapped_row c.self.inside.properties c.self.inside.held.objects c.args.memory.now new
          c.set_mapped.ensures.objects;
      offers = refl;
      answers = refl;
      names = (c.set_mapped.ensures.last_name, c.set_mapped.ensures.gone);
    })
