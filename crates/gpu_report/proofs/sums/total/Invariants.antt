use Rattle.std.proofs.Common.{◌≡◌, ◌≤◌, ◌*◌, ◌^◌, take}
use Rattle.std.specs.List.{sum}
use Rattle.gpu_report.proofs.sums.total.Given as goal

abbrev pub invariant-loop-size : goal.invariant-loop-size
invariant-loop-size l = record { is : l.total ≡ sum (take l.size-index l.sizes); most : l.total ≤ l.size-index * 2 ^ 64 }
