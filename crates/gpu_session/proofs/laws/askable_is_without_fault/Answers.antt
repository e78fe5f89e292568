use Rattle.gpu_session.proofs.Conditions.{faultless_is_askable}
use Rattle.gpu_session.proofs.laws.askable_is_without_fault.Goals as goal

pub returns : goal.returns
returns c = λ address request. faultless_is_askable address request
