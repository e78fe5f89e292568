use Rattle.std.proofs.Common.{map, take, All}
use Rattle.std.specs.FinMap as finite
use Rattle.gpu_alloc_types.specs.Device.{HeldWith, range_of}
use Rattle.gpu_sim.specs.Objects.{CopiesEach, HasRange}
use Rattle.gpu_sim.proofs.sim.object.Numbered+SimObject+A+A.copy_each.Given as goal

abbrev pub invariant-loop-range : goal.invariant-loop-range
invariant-loop-range g l = record {
  done : CopiesEach l.way l.part (take l.range-index (map (range_of (λ memory. memory)) l.ranges)) l.initial.self l.self;
  held : All (λ r. HeldWith (finite.get l.self) r.object (HasRange r.offset r.size)) (map (range_of (λ memory. memory)) l.ranges);
}
