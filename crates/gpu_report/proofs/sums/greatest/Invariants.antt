use Rattle.std.proofs.Common.{◌≡◌, drop, max}
use Rattle.gpu_report.specs.Free.{largest}
use Rattle.gpu_report.proofs.sums.greatest.Given as goal

abbrev pub invariant-loop-size : goal.invariant-loop-size
invariant-loop-size l = max l.greatest (largest (drop l.size-index l.sizes)) ≡ largest l.sizes
