use Rattle.gpu_alloc_base.proofs.PowersOfTwo.{align_mask_of_power}
use Rattle.gpu_alloc_base.proofs.laws.align_masks_of_powers.Goals as goal

pub returns : goal.returns
returns c = align_mask_of_power
