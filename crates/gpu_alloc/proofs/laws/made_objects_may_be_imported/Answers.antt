use Rattle.gpu_alloc.proofs.Imports.{asked_left}
use Rattle.gpu_alloc.proofs.laws.made_objects_may_be_imported.Goals as goal

pub returns : goal.returns
returns g c =
    let name = g.M.MemoryObject.object in
    let answer = c.args.answer.now in
    let s = c.args.allocator.now in
    record {
      allocator = λ old size t flags made. (asked_left name answer (g.met.D.ObjectDevice.keeps_properties _ _ _ made) size t flags (g.met.D.ObjectDevice.row _ _ _ made)).allocators s;
      blocks = λ old size t flags b made. (asked_left name answer (g.met.D.ObjectDevice.keeps_properties _ _ _ made) size t flags (g.met.D.ObjectDevice.row _ _ _ made)).blocks b;
      unheld = λ old size t flags made. (asked_left name answer (g.met.D.ObjectDevice.keeps_properties _ _ _ made) size t flags (g.met.D.ObjectDevice.row _ _ _ made)).unheld s;
      whole = λ old size t flags made. (asked_left name answer (g.met.D.ObjectDevice.keeps_properties _ _ _ made) size t flags (g.met.D.ObjectDevice.row _ _ _ made)).whole;
    }
