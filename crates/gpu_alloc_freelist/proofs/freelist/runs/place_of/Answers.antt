use Rattle.std.proofs.Common.{ℕ, ◌+◌, ◌-◌, ◌/◌, ◌<◌, length, arith}
use Rattle.gpu_alloc_base.specs.Slots.{region_of}
use Rattle.gpu_alloc_freelist.proofs.RunSearch.{all_before, none_before, halved_more, few_more, less_at, not_less_at}
use Rattle.gpu_alloc_freelist.proofs.freelist.runs.place_of.Goals as goal

pub loop-low-preserved-then-eq : goal.loop-low-preserved-then-eq
loop-low-preserved-then-eq g c =
    let i = c.loop-low.invariant in
    let middle : ℕ = c.loop-low.low + (c.loop-low.high - c.loop-low.low) / 2 in
    let within : middle < length c.args.regions.now = omega arith in
    record {
      window = omega arith;
      within = i.within;
      before = λ k d lt. all_before c.args.regions.now c.requires (region_of c.args.block.now) middle k d within (less_at c.args.regions.now middle _ within c.args.block.now _ c.compare.ensures.order _ c.eq.ensures d c.if-eq.true) (omega arith);
      behind = i.behind;
      counted = omega arith;
      some = omega arith;
      halved = halved_more _ _ _ _ _ _ i.counted c.compare.ensures.counted i.halved (omega arith);
      few = few_more _ _ _ _ _ i.counted c.compare.ensures.counted i.halved (omega arith);
    }

pub loop-low-preserved : goal.loop-low-preserved
loop-low-preserved g c =
    let i = c.loop-low.invariant in
    let middle : ℕ = c.loop-low.low + (c.loop-low.high - c.loop-low.low) / 2 in
    let within : middle < length c.args.regions.now = omega arith in
    record {
      window = omega arith;
      within = omega arith;
      before = i.before;
      behind = λ k d le lt. none_before c.args.regions.now c.requires (region_of c.args.block.now) middle k d within (not_less_at c.args.regions.now middle _ within c.args.block.now _ c.compare.ensures.order _ c.eq.ensures d c.if-eq.false) le lt;
      counted = omega arith;
      some = omega arith;
      halved = halved_more _ _ _ _ _ _ i.counted c.compare.ensures.counted i.halved (omega arith);
      few = few_more _ _ _ _ _ i.counted c.compare.ensures.counted i.halved (omega arith);
    }
