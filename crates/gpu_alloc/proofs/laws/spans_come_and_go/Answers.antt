use Rattle.gpu_alloc.proofs.Owning.{one_cancels, two_cancel}
use Rattle.gpu_alloc_block.proofs.LiveSpans.{put_taken, taken_before}
use Rattle.gpu_alloc.proofs.laws.spans_come_and_go.Goals as goal

pub returns-clause-again : goal.returns-clause-again
returns-clause-again c = λ live span. put_taken live span

pub returns-clause-between : goal.returns-clause-between
returns-clause-between c = λ live a b. taken_before live a b

pub returns-clause-cancel : goal.returns-clause-cancel
returns-clause-cancel c = record { one = one_cancels; two = two_cancel }
