use Rattle.gpu_desk.specs.Names.{IsPastName, IsSpentName, NamesNothing, Waits}
use Rattle.gpu_desk.proofs.NamesEver.{ever, past_names_nothing}
use Rattle.gpu_desk.proofs.laws.no_name_comes_twice.Goals as goal

pub returns-clause-nothing : goal.returns-clause-nothing
returns-clause-nothing c = λ first states follows name past.
    ever (λ s. IsPastName s name) (λ s. NamesNothing s name) (λ old new keeps. keeps.past name) (λ s sound. past_names_nothing s sound name) first states follows past

pub returns-clause-once : goal.returns-clause-once
returns-clause-once c = λ first states follows name spent.
    ever (λ s. IsSpentName s name) (λ s. Waits s name → ⊥) (λ old new keeps. keeps.spent name) (λ s sound spent. spent.1) first states follows spent
