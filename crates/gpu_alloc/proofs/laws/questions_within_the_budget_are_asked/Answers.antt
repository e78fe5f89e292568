use Rattle.gpu_alloc.proofs.Budgets.{asked_within}
use Rattle.gpu_alloc.proofs.laws.questions_within_the_budget_are_asked.Goals as goal

pub returns : goal.returns
returns c = λ s r hint t es answer new. asked_within s r hint t es answer new
