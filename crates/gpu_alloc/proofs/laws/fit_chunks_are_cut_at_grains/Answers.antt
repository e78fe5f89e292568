use Rattle.gpu_alloc.proofs.Fits.Grains.{range_of_grains}
use Rattle.gpu_alloc.proofs.laws.fit_chunks_are_cut_at_grains.Goals as goal

pub returns : goal.returns
returns c s sound t r is of = range_of_grains s sound t r of is
