-- One more question was answered.
use Rattle.std.proofs.Common.{◌≡◌, ◌<◌, ◌+◌, ◌++◌, ◌∷◌, [], inl, inr, ℕ, suc, if◌then◌else◌, Bool, false, not, List, slice_index_or, length, take, arith, sym, ◌∙◌, ap}
use Rattle.std.proofs.Math.Seq.{take-suc}
use Rattle.std.proofs.lemmas.List.{map-append, get_or_default}
use Rattle.std.specs.Prelude.{map}
use Rattle.gpu_alloc_base.proofs.Names.{one_or_two}
use Rattle.gpu_answers.specs.declared.question.Answered.{Answered}
use Rattle.wallthyme.specs.Layout.{answered_of}
use Rattle.wallthyme.specs.Malformed.{is_answered}
use Rattle.wallthyme.specs.declared.layout.Question.{Question}
use Rattle.wallthyme.proofs.answers.read_answers.Goals as goal

one_more_told : (asked : List Question) (i : ℕ) (d : Question) (a : Answered) (xs : List Answered) → i < length asked
    → xs ≡ map answered_of (take i asked) → a ≡ answered_of (slice_index_or asked i d) → xs ++ a ∷ [] ≡ map answered_of (take (i + 1) asked)
one_more_told asked i d a xs below told is =
    let one : i + 1 ≡ suc i = omega arith in
    ap (λ ys. ys ++ a ∷ []) told ∙ ap (λ (x : Answered). map answered_of (take i asked) ++ x ∷ []) is
    ∙ sym (map-append answered_of (take i asked) (slice_index_or asked i d ∷ [])) ∙ ap (map answered_of) (sym (take-suc asked i d below)) ∙ ap (λ n. map answered_of (take n asked)) (sym one)

-- of what there is after a push, where it was pushed
pushed : {X : Type 0} (t e : Bool) (now more old : X) → now ≡ (if t then more else old) → e ≡ false → t ≡ not e → now ≡ more
pushed t e now more old is went ok = is ∙ ap (λ b. if b then more else old) (ok ∙ ap not went)

pub loop-question-preserved : goal.loop-question-preserved
loop-question-preserved c =
    let i = c.loop-question.question-index in
    let at = c.in-Some.ensures in
    let below : i < length c.args.asked.now = omega arith in
    record {
      told = pushed _ c.is_err.result _ _ _ c.push.ensures.items c.if-is_err.false c.is_err.ensures.negation
          ∙ one_more_told c.args.asked.now i _ c.in-Some.answered c.loop-question.answers.items below c.loop-question.invariant.told at.answered;
      answered = λ k d less. elim (one_or_two k i) [
        | inl same ↦ ap (λ n. is_answered (slice_index_or c.args.asked.now n d)) same ∙ ap is_answered (get_or_default c.args.asked.now i d _ below) ∙ at.some (λ none. cc)
        | inr other ↦ c.loop-question.invariant.answered k d (omega (arith, less, other))
      ];
    }
