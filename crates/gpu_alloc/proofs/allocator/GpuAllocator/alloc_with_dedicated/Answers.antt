use Rattle.std.proofs.Common.{Some}
use Rattle.gpu_alloc.specs.Allocation.{Allocates, plan}
use Rattle.gpu_alloc.proofs.Agreed.{chain_keeps}
use Rattle.gpu_alloc.proofs.Allocations.{allocation}
use Rattle.gpu_alloc.proofs.Granted.{allocates_kind, alone_is, exact_is, is_plan, required_granted}
use Rattle.gpu_alloc.proofs.allocator.GpuAllocator.alloc_with_dedicated.Goals as goal

pub returns : goal.returns
unfolding Allocates
returns g c =
    let s = c.args.self.now in
    let w = plan s c.args.request (Some c.args.dedicated) in
    let decided = c.allocate-answer.ensures.decided in
    let properties = chain_keeps g.D.ObjectDevice.step g.D.ObjectDevice.properties g.met.D.ObjectDevice.keeps_properties _ _ _ decided.1 in
    let kind = allocates_kind s w _ _ _ decided.2 in
    let alone = alone_is s c.args.request (Some c.args.dedicated) _ kind in
    let it = allocation s c.args.request w (is_plan s c.args.request (Some c.args.dedicated) c.requires.askable) c.keeps_sound.ensures.sound c.keeps_sound.ensures.atoms _ _ _ _ c.requires.agrees properties _ _ _ c.keeps_sound-2.ensures.sound decided.2 c.allocate-answer.ensures.objects in
    record {
      decided = decided;
      objects = c.allocate-answer.ensures.objects;
      properties = properties;
      total = it.total_is;
      sound = c.keeps_sound-2.ensures.sound;
      agrees = it.agrees;
      granted = it.granted;
      ready = it.ready;
      alone = alone;
      own = λ required. required_granted s c.args.request c.args.dedicated required _ alone;
      exact = exact_is s c.args.request (Some c.args.dedicated) _ kind;
      added = it.added;
      refused = it.refused;
      leaves = it.leaves;
      keeps = it.keeps;
      in_hand = it.in_hand;
      joins = it.joins;
    }
