use Rattle.gpu_alloc_base.proofs.PowersOfTwo.{is_next_power_of_two}
use Rattle.gpu_alloc_base.proofs.laws.next_power_of_two_is_least.Goals as goal

pub returns : goal.returns
returns c = is_next_power_of_two
