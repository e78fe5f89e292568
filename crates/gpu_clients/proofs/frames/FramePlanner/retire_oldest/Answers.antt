use Rattle.std.proofs.Common.{refl}
use Rattle.gpu_clients.proofs.frames.FramePlanner.retire_oldest.Goals as goal

pub returns-in-Some-clause-none : goal.returns-in-Some-clause-none
returns-in-Some-clause-none g c never = absurd (never refl)
