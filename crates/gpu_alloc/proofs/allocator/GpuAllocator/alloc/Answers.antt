use Rattle.std.proofs.Common.{None}
use Rattle.gpu_alloc.specs.Allocation.{Allocates, plan}
use Rattle.gpu_alloc.proofs.Agreed.{chain_keeps}
use Rattle.gpu_alloc.proofs.Allocations.{allocation}
use Rattle.gpu_alloc.proofs.Granted.{allocates_kind, alone_is, exact_is, is_plan}
use Rattle.gpu_alloc.proofs.allocator.GpuAllocator.alloc.Goals as goal

pub returns : goal.returns
unfolding Allocates
returns g c =
    let s = c.args.self.now in
    let w = plan s c.args.request None in
    let decided = c.allocate-answer.ensures.decided in
    let properties = chain_keeps g.D.ObjectDevice.step g.D.ObjectDevice.properties g.met.D.ObjectDevice.keeps_properties _ _ _ decided.1 in
    let kind = allocates_kind s w _ _ _ decided.2 in
    let it = allocation s c.args.request w (is_plan s c.args.request None c.requires.askable) c.keeps_sound.ensures.sound c.keeps_sound.ensures.atoms _ _ _ _ c.requires.agrees properties _ _ _ c.keeps_sound-2.ensures.sound decided.2 c.allocate-answer.ensures.objects in
    record {
      decided = decided;
      objects = c.allocate-answer.ensures.objects;
      properties = properties;
      total = it.total_is;
      sound = c.keeps_sound-2.ensures.sound;
      agrees = it.agrees;
      granted = it.granted;
      ready = it.ready;
      alone = alone_is s c.args.request None _ kind;
      exact = exact_is s c.args.request None _ kind;
      added = it.added;
      refused = it.refused;
      leaves = it.leaves;
      keeps = it.keeps;
      in_hand = it.in_hand;
      joins = it.joins;
    }
