use Rattle.gpu_session.proofs.Holding.{latest_is_only}
use Rattle.gpu_session.proofs.laws.latest_is_only.Goals as goal

pub returns : goal.returns
returns g c = λ commands replies name byte v last. latest_is_only name byte commands replies v last
