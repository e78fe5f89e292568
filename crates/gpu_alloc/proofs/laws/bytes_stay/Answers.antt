use Rattle.gpu_alloc_block.proofs.Contents.{bytes_stay}
use Rattle.gpu_alloc.proofs.laws.bytes_stay.Goals as goal

pub returns : goal.returns
returns c = bytes_stay
