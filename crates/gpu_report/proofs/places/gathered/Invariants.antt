use Rattle.std.proofs.Common.{◌≡◌, ◌++◌, map, take}
use Rattle.gpu_report.specs.Places.{block_place, free_place}
use Rattle.gpu_report.proofs.places.gathered.Given as goal

abbrev pub invariant-loop-block : goal.invariant-loop-block
invariant-loop-block l = l.places.items ≡ map block_place (take l.block-index l.blocks)

abbrev pub invariant-loop-range : goal.invariant-loop-range
invariant-loop-range l = l.places.items ≡ l.initial.places.items ++ map free_place (take l.range-index l.ranges)
