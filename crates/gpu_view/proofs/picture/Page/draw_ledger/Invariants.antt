use Rattle.std.proofs.Common.{◌≤◌}
use Rattle.gpu_view.proofs.picture.Page.draw_ledger.Given as goal

abbrev pub invariant-loop-kind : goal.invariant-loop-kind
invariant-loop-kind l = l.count ≤ l.strip.count
