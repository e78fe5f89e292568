use Rattle.gpu_alloc.proofs.Owning.{differ_two}
use Rattle.gpu_alloc.proofs.laws.owned_blocks_are_apart.Goals as goal

pub returns : goal.returns
returns c = λ s b c. differ_two s b c
