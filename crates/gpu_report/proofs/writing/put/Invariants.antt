use Rattle.std.proofs.Common.{take}
use Rattle.gpu_report.specs.Writing.{GoesOn}
use Rattle.gpu_report.proofs.writing.put.Given as goal

abbrev pub invariant-loop-byte : goal.invariant-loop-byte
invariant-loop-byte l = GoesOn l.fn.text l.fn.at (take l.byte-index l.bytes) l.text l.end
