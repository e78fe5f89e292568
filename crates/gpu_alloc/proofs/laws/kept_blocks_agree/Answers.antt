use Rattle.gpu_alloc_block.specs.Agreement.{KeepsBlocks}
use Rattle.gpu_alloc.proofs.laws.kept_blocks_agree.Goals as goal

pub returns : goal.returns
unfolding KeepsBlocks
returns c = record { each = λ s after b p q old new keeps owned still is. keeps b owned still is }
