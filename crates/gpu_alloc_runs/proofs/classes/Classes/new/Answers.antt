use Rattle.std.proofs.Common.{refl}
use Rattle.gpu_alloc_runs.proofs.Marks.{empty_first, empty_marked}
use Rattle.gpu_alloc_runs.proofs.classes.Classes.new.Goals as goal

pub returns-clause-marked : goal.returns-clause-marked
returns-clause-marked c = empty_marked _ refl refl

pub returns-clause-empty : goal.returns-clause-empty
returns-clause-empty c = empty_first _ refl refl
