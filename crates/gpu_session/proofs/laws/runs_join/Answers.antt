use Rattle.gpu_session.proofs.Runs.{run_answers_each, run_append, run_coarser}
use Rattle.gpu_session.proofs.Holding.{goes_on}
use Rattle.gpu_session.proofs.laws.runs_join.Goals as goal

pub returns-clause-any : goal.returns-clause-any
returns-clause-any g c = λ old mid new commands later replies answers. run_append _ old mid new commands later replies answers

pub returns-clause-sound : goal.returns-clause-sound
returns-clause-sound g c = λ old mid new commands later replies answers. run_append _ old mid new commands later replies answers

pub returns-clause-steps : goal.returns-clause-steps
returns-clause-steps g c = λ old new commands replies. run_coarser _ _ (λ before command reply after s. s.taken) old new commands replies

pub returns-clause-seen : goal.returns-clause-seen
returns-clause-seen g c = λ old new commands replies run. goes_on commands replies (run_answers_each _ old new commands replies run)
