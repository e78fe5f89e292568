use Rattle.std.proofs.Common.{refl}
use Rattle.gpu_answers.proofs.Rows.{flushed_row}
use Rattle.gpu_answers.proofs.device.AnsweredDeviceObjectDeviceObjectName.flush_memory_ranges.Goals as goal

pub returns : goal.returns
returns c = record { row = flushed_row _ _ _ c.requires; offers = refl; answers = refl; names = (refl, refl) }
