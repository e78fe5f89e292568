use Rattle.gpu_desk.proofs.Losing.{none_lost}
use Rattle.gpu_desk.proofs.laws.no_object_is_lost.Goals as goal

pub returns : goal.returns
returns c = none_lost
