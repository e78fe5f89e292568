use Rattle.gpu_alloc.proofs.Serving.{asks_for_own, never_served}
use Rattle.gpu_alloc.proofs.laws.what_can_never_be_served.Goals as goal

pub returns-clause-never : goal.returns-clause-never
returns-clause-never c = never_served

pub returns-clause-asks : goal.returns-clause-asks
returns-clause-asks c = asks_for_own
