use Rattle.std.proofs.Common.{◌-◌}
use Rattle.gpu_view.proofs.drawing.Drawing.range.Given as goal

abbrev pub decreases-loop-start : goal.decreases-loop-start
decreases-loop-start l = l.end - l.start
