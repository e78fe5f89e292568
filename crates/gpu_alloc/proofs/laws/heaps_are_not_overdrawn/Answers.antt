use Rattle.std.proofs.Common.{arith}
use Rattle.gpu_alloc.proofs.Budgets.{held_within, whole_heap}
use Rattle.gpu_alloc.proofs.laws.heaps_are_not_overdrawn.Goals as goal

pub returns-clause-held : goal.returns-clause-held
returns-clause-held c = λ s heap. held_within s heap

pub returns-clause-whole : goal.returns-clause-whole
returns-clause-whole c = λ s heap. whole_heap s heap

pub returns-clause-limited : goal.returns-clause-limited
returns-clause-limited c = λ s heap. omega arith
