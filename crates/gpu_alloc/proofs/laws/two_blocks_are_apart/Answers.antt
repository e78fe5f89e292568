use Rattle.gpu_alloc_block.proofs.Kept.{two_back}
use Rattle.gpu_alloc.proofs.laws.two_blocks_are_apart.Goals as goal

pub returns-clause-back : goal.returns-clause-back
returns-clause-back c = two_back

pub returns-clause-apart : goal.returns-clause-apart
returns-clause-apart c = λ b d two. two.apart

pub returns-clause-objects : goal.returns-clause-objects
returns-clause-objects c = λ b d two. two.objects.first
