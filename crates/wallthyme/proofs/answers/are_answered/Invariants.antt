-- Each question so far has an answer.
use Rattle.std.proofs.Common.{◌≡◌, ◌<◌, ℕ, true, slice_index_or}
use Rattle.wallthyme.specs.Malformed.{is_answered}
use Rattle.wallthyme.specs.declared.layout.Question.{Question}
use Rattle.wallthyme.proofs.answers.are_answered.Given as goal

abbrev pub invariant-loop-question : goal.invariant-loop-question
invariant-loop-question l = (k : ℕ) (d : Question) → k < l.question-index → is_answered (slice_index_or l.asked k d) ≡ true
