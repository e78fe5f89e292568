use Rattle.std.proofs.Common.{refl, subst, sym}
use Rattle.std.specs.FinMap as map
use Rattle.gpu_alloc_types.specs.Device.{IsHeld}
use Rattle.gpu_answers.specs.Device.{objects_of}
use Rattle.gpu_answers.proofs.Rows.{release_row, shown_is_there}
use Rattle.gpu_answers.proofs.device.AnsweredDeviceObjectDeviceObjectName.deallocate_memory.Goals as goal

pub returns : goal.returns
returns c =
    let gone = c.release.ensures in
    rw (← c.self.view_is) (record {
      row = release_row c.self.inside.properties c.self.inside.held.objects c.args.memory.now c.release.new.self.objects
          gone.objects;
      offers = refl;
      answers = refl;
      names = (
        gone.last_name,
        gone.gone,
        shown_is_there c.self.inside.properties (map.get c.self.inside.held.objects c.args.memory.now)
            (subst (λ s. IsHeld (objects_of s) c.args.memory.now) (sym c.self.view_is) c.requires),
      );
    })
