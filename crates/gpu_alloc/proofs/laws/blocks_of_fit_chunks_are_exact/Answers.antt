use Rattle.gpu_alloc.proofs.Granted.{exact_told}
use Rattle.gpu_alloc.proofs.laws.blocks_of_fit_chunks_are_exact.Goals as goal

pub returns : goal.returns
returns c = exact_told
