-- The answers so far are those of the questions so far, each of which has one.
use Rattle.std.proofs.Common.{◌≡◌, ◌<◌, ℕ, true, slice_index_or, take}
use Rattle.std.specs.Prelude.{map}
use Rattle.wallthyme.specs.Layout.{answered_of}
use Rattle.wallthyme.specs.Malformed.{is_answered}
use Rattle.wallthyme.specs.declared.layout.Question.{Question}
use Rattle.wallthyme.proofs.answers.read_answers.Given as goal

abbrev pub invariant-loop-question : goal.invariant-loop-question
invariant-loop-question l = record {
  told : l.answers.items ≡ map answered_of (take l.question-index l.asked);
  answered : (k : ℕ) (d : Question) → k < l.question-index → is_answered (slice_index_or l.asked k d) ≡ true;
}
