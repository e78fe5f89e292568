use Rattle.gpu_alloc.specs.Allocation.{AllocatesOptimal, plan_in_pages}
use Rattle.gpu_alloc.proofs.Agreed.{chain_keeps}
use Rattle.gpu_alloc.proofs.Allocations.{allocation}
use Rattle.gpu_alloc.proofs.Granted.{allocates_kind, of_kind}
use Rattle.gpu_alloc.proofs.InPages.{exact_in_pages, granted_in_pages, is_plan_in_pages, kind_in_pages, required_in_pages}
use Rattle.gpu_alloc.proofs.allocator.GpuAllocator.alloc_optimal.Goals as goal

pub returns : goal.returns
unfolding AllocatesOptimal
returns g c =
    let s = c.args.self.now in
    let r = c.args.request in
    let w = plan_in_pages s r c.args.dedicated c.args.granularity in
    let decided = c.allocate_in_pages-answer.ensures.decided in
    let properties = chain_keeps g.D.ObjectDevice.step g.D.ObjectDevice.properties g.met.D.ObjectDevice.keeps_properties _ _ _ decided.1 in
    let kind = allocates_kind s w _ _ _ decided.2 in
    let for = is_plan_in_pages s r c.args.dedicated c.args.granularity c.requires.granularity c.requires.askable in
    let it = allocation s r w for c.keeps_sound.ensures.sound c.keeps_sound.ensures.atoms _ _ _ _ c.requires.agrees properties _ _ _ c.keeps_sound-2.ensures.sound decided.2 c.allocate_in_pages-answer.ensures.objects in
    record {
      decided = decided;
      objects = c.allocate_in_pages-answer.ensures.objects;
      properties = properties;
      total = it.total_is;
      sound = c.keeps_sound-2.ensures.sound;
      agrees = it.agrees;
      granted = it.granted;
      ready = it.ready;
      pages = granted_in_pages s r c.args.dedicated c.args.granularity c.requires.granularity c.requires.askable c.keeps_sound.ensures.sound c.keeps_sound.ensures.atoms _ _ _ decided.2;
      alone = of_kind s w _ (λ b is. (kind_in_pages s r c.args.dedicated c.args.granularity c.requires.granularity c.requires.askable b is).0) kind;
      exact = of_kind s w _ (λ b is. exact_in_pages s r c.args.dedicated c.args.granularity c.requires.granularity c.requires.askable b is) kind;
      size = of_kind s w _ (λ b is. (kind_in_pages s r c.args.dedicated c.args.granularity c.requires.granularity c.requires.askable b is).1) kind;
      own = λ required. required_in_pages s r c.args.dedicated c.args.granularity c.requires.granularity c.requires.askable required _ kind;
      added = it.added;
      refused = it.refused;
      leaves = it.leaves;
      keeps = it.keeps;
      in_hand = it.in_hand;
      joins = it.joins;
    }
