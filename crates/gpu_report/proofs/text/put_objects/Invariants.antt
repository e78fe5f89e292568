use Rattle.std.proofs.Common.{take}
use Rattle.gpu_report.specs.DeskReport.{user_of}
use Rattle.gpu_report.specs.Text.{object_text, rows}
use Rattle.gpu_report.specs.Writing.{GoesOn}
use Rattle.gpu_report.proofs.text.put_objects.Given as goal

abbrev pub invariant-loop-index : goal.invariant-loop-index
invariant-loop-index l = GoesOn l.fn.text l.fn.at (rows (object_text (user_of l.desk)) (take l.index l.objects)) l.text l.end
