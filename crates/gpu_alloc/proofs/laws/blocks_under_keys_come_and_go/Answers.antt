use Rattle.gpu_alloc_block.proofs.Keyed.{under_keys}
use Rattle.gpu_alloc.proofs.UnderKeys.{come_and_go}
use Rattle.gpu_alloc.proofs.laws.blocks_under_keys_come_and_go.Goals as goal

pub returns-clause-kept : goal.returns-clause-kept
returns-clause-kept c = under_keys

pub returns-clause-all : goal.returns-clause-all
returns-clause-all c = come_and_go
