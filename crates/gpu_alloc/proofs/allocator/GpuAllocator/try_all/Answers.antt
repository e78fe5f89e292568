use Rattle.std.proofs.Common.{◌≡◌, ◌<◌, ◌≤◌, ◌∙◌, length, get_or, add-one, ap, true, Err, refl, arith}
use Rattle.gpu_alloc_types.specs.Chains.{chain_append}
use Rattle.gpu_alloc_types.specs.Flags.{usage_bits}
use Rattle.gpu_alloc_usage.specs.Ranking.{is_allowed, named, ranking}
use Rattle.gpu_alloc_usage.proofs.Ranking.Candidates.{ranking-within}
use Rattle.gpu_alloc_block.specs.State.{State}
use Rattle.gpu_alloc.specs.Allocation.{asked_of}
use Rattle.gpu_alloc.proofs.Agreed.{chain_keeps}
use Rattle.gpu_alloc.proofs.Agreeing.{agrees_kept}
use Rattle.gpu_alloc.proofs.Trials.{continues_past, continues_next, continues_decided, continues_end, decides_as, allowed_by_shift, not_by_shift, tries_as_meant}
use Rattle.gpu_alloc.proofs.allocator.GpuAllocator.try_all.Goals as goal
use Rattle.gpu_alloc.proofs.allocator.GpuAllocator.try_all.Goals.{then-request-memory_type-eq1+in-Ok-None, else-request-memory_type-eq1}

pub try_asked-requires-clause-known : goal.try_asked-requires-clause-known
try_asked-requires-clause-known g c =
    let inside : c.loop-rank.rank < length c.ranked.result.now = rw (c.ranked.ensures.ranked, c.loop-rank.invariant.same, ← c.ranked-rank-end.ensures.ranked) c.loop-rank-test.true in
    let within = ranking-within (named (usage_bits c.args.usage)) c.loop-rank.self.properties.memory_types c.loop-rank.rank 0 (rw (← c.ranked.ensures.ranked) inside) in
    rw c.ranked.ensures.ranked within

pub try_asked-requires-clause-agrees : goal.try_asked-requires-clause-agrees
try_asked-requires-clause-agrees g c =
    let before = c.loop-rank.invariant in
    let properties = chain_keeps g.D.ObjectDevice.step g.D.ObjectDevice.properties g.met.D.ObjectDevice.keeps_properties _ _ _ before.passed.1 in
    agrees_kept c.args.self.now _ _ _ _ _ c.requires.agrees before.same properties before.objects

pub returns-clause-tries : goal.returns-clause-tries
returns-clause-tries g c =
    let before = c.loop-rank.invariant.passed in
    let row = ranking (named (usage_bits c.args.usage)) c.args.self.now.properties.memory_types in
    let past : length row ≤ c.loop-rank.rank = rw (← c.ranked-rank-end.ensures.ranked) (omega (arith, c.loop-rank-test.false)) in
    let ends = continues_end c.args.self.now (asked_of c.args.self.now c.args.request.now c.args.hint c.args.paged.now) (is_allowed c.args.request.now.memory_types) row c.loop-rank.rank before.0 past before.2 in
    rw c.loop-rank.invariant.same (before.0, before.1, tries_as_meant c.args.self.now c.args.request.now (asked_of c.args.self.now c.args.request.now c.args.hint c.args.paged.now) (usage_bits c.args.usage) _ _ _ c.requires.meant ends)

pub loop-rank-preserved : goal.loop-rank-preserved
loop-rank-preserved g c = elim c.if-request-memory_type-eq1.branch [
  | then-request-memory_type-eq1+in-Ok-None w ↦
      let before = c.loop-rank.invariant.passed in
      let row = ranking (named (usage_bits c.args.usage)) c.args.self.now.properties.memory_types in
      let at_rank = c.ranked.ensures.ranked ∙ ap (λ s. ranking (named (usage_bits c.args.usage)) s.properties.memory_types) c.loop-rank.invariant.same in
      let inside : c.loop-rank.rank < length row = rw (← c.ranked-rank-end.ensures.ranked) c.loop-rank-test.true in
      let allowed : is_allowed c.args.request.now.memory_types (get_or row c.loop-rank.rank 0) ≡ true = allowed_by_shift c.args.request.now.memory_types (get_or row c.loop-rank.rank 0) (rw at_rank at w.if-request-memory_type-eq1.true) in
      let tried = rw (w.in-Ok-None.field-0-is, c.loop-rank.invariant.same, at_rank) at w.in-Ok-None.ensures.tries in
      record {
        same = w.self-is ∙ tried.2.1;
        passed = rw (w.device-is, add-one) (_, chain_append g.D.ObjectDevice.step _ _ _ _ _ before.1 tried.1, continues_next c.args.self.now (asked_of c.args.self.now c.args.request.now c.args.hint c.args.paged.now) (is_allowed c.args.request.now.memory_types) row c.loop-rank.rank _ _ inside allowed before.2 tried.2.0);
        objects = rw w.device-is (rw w.in-Ok-None.field-0-is at w.in-Ok-None.ensures.objects ∙ c.loop-rank.invariant.objects);
      }
  | else-request-memory_type-eq1 w ↦
      let before = c.loop-rank.invariant.passed in
      let row = ranking (named (usage_bits c.args.usage)) c.args.self.now.properties.memory_types in
      let at_rank = c.ranked.ensures.ranked ∙ ap (λ s. ranking (named (usage_bits c.args.usage)) s.properties.memory_types) c.loop-rank.invariant.same in
      let inside : c.loop-rank.rank < length row = rw (← c.ranked-rank-end.ensures.ranked) c.loop-rank-test.true in
      let past = not_by_shift c.args.request.now.memory_types (get_or row c.loop-rank.rank 0) (rw at_rank at w.if-request-memory_type-eq1.false) in
      record {
        same = w.self-is ∙ c.loop-rank.invariant.same;
        passed = rw (w.device-is, add-one) (before.0, before.1, continues_past c.args.self.now (asked_of c.args.self.now c.args.request.now c.args.hint c.args.paged.now) (is_allowed c.args.request.now.memory_types) row c.loop-rank.rank before.0 inside past before.2);
        objects = rw w.device-is c.loop-rank.invariant.objects;
      }
]

pub returns-in-Ok-Some-clause-tries : goal.returns-in-Ok-Some-clause-tries
returns-in-Ok-Some-clause-tries g c =
    let before = c.loop-rank.invariant.passed in
    let row = ranking (named (usage_bits c.args.usage)) c.args.self.now.properties.memory_types in
    let at_rank = c.ranked.ensures.ranked ∙ ap (λ s. ranking (named (usage_bits c.args.usage)) s.properties.memory_types) c.loop-rank.invariant.same in
    let inside : c.loop-rank.rank < length row = rw (← c.ranked-rank-end.ensures.ranked) c.loop-rank-test.true in
    let allowed : is_allowed c.args.request.now.memory_types (get_or row c.loop-rank.rank 0) ≡ true = allowed_by_shift c.args.request.now.memory_types (get_or row c.loop-rank.rank 0) (rw at_rank at c.if-request-memory_type-eq1.true) in
    let tried = rw (c.in-Ok-Some.field-0-is, c.loop-rank.invariant.same, at_rank) at c.in-Ok-Some.ensures.tries in
    let decided = continues_decided c.args.self.now (asked_of c.args.self.now c.args.request.now c.args.hint c.args.paged.now) (is_allowed c.args.request.now.memory_types) row c.args.self.now c.loop-rank.rank before.0 tried.0 _ _ refl inside allowed before.2 tried.2 in
    (_, chain_append g.D.ObjectDevice.step _ _ _ _ _ before.1 tried.1, tries_as_meant c.args.self.now c.args.request.now (asked_of c.args.self.now c.args.request.now c.args.hint c.args.paged.now) (usage_bits c.args.usage) _ _ _ c.requires.meant decided)

pub returns-in-Err-clause-tries : goal.returns-in-Err-clause-tries
returns-in-Err-clause-tries g c =
    let before = c.loop-rank.invariant.passed in
    let row = ranking (named (usage_bits c.args.usage)) c.args.self.now.properties.memory_types in
    let at_rank = c.ranked.ensures.ranked ∙ ap (λ s. ranking (named (usage_bits c.args.usage)) s.properties.memory_types) c.loop-rank.invariant.same in
    let inside : c.loop-rank.rank < length row = rw (← c.ranked-rank-end.ensures.ranked) c.loop-rank-test.true in
    let allowed : is_allowed c.args.request.now.memory_types (get_or row c.loop-rank.rank 0) ≡ true = allowed_by_shift c.args.request.now.memory_types (get_or row c.loop-rank.rank 0) (rw at_rank at c.if-request-memory_type-eq1.true) in
    let tried = c.in-Err.ensures.tries in
    let same = c.loop-rank.invariant.same in
    let is_asked = ap (λ (s : State). asked_of s c.args.request.now c.args.hint c.args.paged.now (get_or c.ranked.result.now c.loop-rank.rank 0)) same
    ∙ ap (λ ts. asked_of c.args.self.now c.args.request.now c.args.hint c.args.paged.now (get_or ts c.loop-rank.rank 0)) at_rank in
    let here = decides_as c.loop-rank.self c.args.self.now _ _ _ _ same is_asked (ap (λ ts. get_or ts c.loop-rank.rank 0) at_rank) tried.0 (Err c.in-Err.refusal) c.try_asked.new.self tried.2 in
    let decided = continues_decided c.args.self.now (asked_of c.args.self.now c.args.request.now c.args.hint c.args.paged.now) (is_allowed c.args.request.now.memory_types) row c.args.self.now c.loop-rank.rank before.0 tried.0 _ _ refl inside allowed before.2 here in
    (_, chain_append g.D.ObjectDevice.step _ _ _ _ _ before.1 tried.1, tries_as_meant c.args.self.now c.args.request.now (asked_of c.args.self.now c.args.request.now c.args.hint c.args.paged.now) (usage_bits c.args.usage) _ _ _ c.requires.meant decided)

pub returns-in-Err-clause-objects : goal.returns-in-Err-clause-objects
returns-in-Err-clause-objects g c =
    c.in-Err.ensures.objects ∙ c.loop-rank.invariant.objects
