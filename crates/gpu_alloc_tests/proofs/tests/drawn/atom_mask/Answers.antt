use Rattle.std.proofs.Common.{refl}
use Rattle.gpu_alloc_tests.proofs.tests.drawn.atom_mask.Goals as goal

pub returns-then-by_atoms-clause-power : goal.returns-then-by_atoms-clause-power
unfolding lib.Count.ones
returns-then-by_atoms-clause-power c = refl

pub returns-then-by_atoms-clause-starting : goal.returns-then-by_atoms-clause-starting
returns-then-by_atoms-clause-starting c = (128, refl)

pub returns-then-by_atoms-clause-largest : goal.returns-then-by_atoms-clause-largest
returns-then-by_atoms-clause-largest c = (512, refl)

pub returns-else-by_atoms-clause-power : goal.returns-else-by_atoms-clause-power
unfolding lib.Count.ones
returns-else-by_atoms-clause-power c = refl

pub returns-else-by_atoms-clause-starting : goal.returns-else-by_atoms-clause-starting
returns-else-by_atoms-clause-starting c = (8192, refl)

pub returns-else-by_atoms-clause-largest : goal.returns-else-by_atoms-clause-largest
returns-else-by_atoms-clause-largest c = (32768, refl)
