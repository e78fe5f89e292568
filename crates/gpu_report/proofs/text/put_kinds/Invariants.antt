use Rattle.std.proofs.Common.{take}
use Rattle.gpu_report.specs.Text.{kind_text, rows}
use Rattle.gpu_report.specs.Writing.{GoesOn}
use Rattle.gpu_report.proofs.text.put_kinds.Given as goal

abbrev pub invariant-loop-index : goal.invariant-loop-index
invariant-loop-index l = GoesOn l.fn.text l.fn.at (rows kind_text (take l.index l.kinds)) l.text l.end
