use Rattle.std.proofs.Common.{◌≤◌}
use Rattle.gpu_alloc_freelist.specs.Runs.{AreShorter}
use Rattle.gpu_alloc_freelist.proofs.freelist.runs.skip_shorter.Given as goal

-- those that were passed over are shorter
abbrev pub invariant-loop-left : goal.invariant-loop-left
invariant-loop-left l = record {
  within : l.left ≤ l.fn.end;
  passed : AreShorter l.regions l.size l.left l.fn.end;
}

abbrev pub decreases-loop-left : goal.decreases-loop-left
decreases-loop-left l = l.left
