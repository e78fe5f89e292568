use Rattle.gpu_alloc_block.proofs.Rounded.{lies_in_block, rounded_covers}
use Rattle.gpu_alloc_block.proofs.laws.rounded_ranges_lie_in_their_block.Goals as goal

pub returns-clause-covers : goal.returns-clause-covers
returns-clause-covers g c = λ offset len. rounded_covers c.args.block.now offset len c.keeps_end.ensures.some

pub returns-clause-inside : goal.returns-clause-inside
returns-clause-inside g c = λ p objects offset len. lies_in_block _ p objects offset len c.keeps_end.ensures.some
