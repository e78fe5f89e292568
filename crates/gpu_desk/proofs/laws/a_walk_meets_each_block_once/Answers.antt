use Rattle.std.proofs.Common.{arith}
use Rattle.gpu_desk.proofs.Walks.{never, once}
use Rattle.gpu_desk.proofs.laws.a_walk_meets_each_block_once.Goals as goal

pub returns-clause-once : goal.returns-clause-once
returns-clause-once c = λ states keys walk key lives. once key 0 states keys walk (omega arith) lives

pub returns-clause-never : goal.returns-clause-never
returns-clause-never c = λ states keys walk key dead. never key 0 states keys walk dead
