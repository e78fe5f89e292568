use Rattle.std.proofs.Common.{◌∙◌, ap}
use Rattle.wallthyme.specs.Status.{status_of_fault}
use Rattle.wallthyme.proofs.Unread.{memory_denies}
use Rattle.wallthyme.proofs.answers.Unread.status.Goals as goal

pub returns-in-NoMemory-clause-denied : goal.returns-in-NoMemory-clause-denied
returns-in-NoMemory-clause-denied c = λ is. memory_denies c.args.missed c.misused.result (c.misused.ensures.status ∙ ap status_of_fault c.unwrap_or.ensures)
