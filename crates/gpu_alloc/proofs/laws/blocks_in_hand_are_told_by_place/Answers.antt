use Rattle.gpu_alloc_block.proofs.ByPlace.{told_by_place}
use Rattle.gpu_alloc.proofs.laws.blocks_in_hand_are_told_by_place.Goals as goal

pub returns : goal.returns
returns c = told_by_place
