use Rattle.gpu_alloc.proofs.Imports.{others_left}
use Rattle.gpu_alloc.proofs.laws.objects_of_others_may_go.Goals as goal

pub returns : goal.returns
returns g c =
    let s = c.args.allocator.now in
    record {
      allocator = λ old name gone. (others_left _ _ _ _ name (g.met.D.ObjectDevice.keeps_properties _ _ _ gone) (g.met.D.ObjectDevice.row _ _ _ gone)).allocators s;
      blocks = λ old name b gone. (others_left _ _ _ _ name (g.met.D.ObjectDevice.keeps_properties _ _ _ gone) (g.met.D.ObjectDevice.row _ _ _ gone)).blocks s b;
    }
