-- How many questions a run asks before one is open.
use Rattle.std.proofs.Common.{◌≡◌, ◌⊎◌, inl, inr, ℕ, ◌+◌, ◌<◌, ◌≤◌, List, [], ◌∷◌, length, Option, Some, None, Ok, Err, refl, sym, ◌∙◌, ap, arith}
use Rattle.gpu_alloc_types.specs.Device.{Chain, Event}
use Rattle.gpu_alloc_types.specs.Device.Event.{Allocated, Deallocated, Mapped, Unmapped, Flushed, Invalidated, BytesPut, BytesGot}
use Rattle.gpu_answers.specs.Asking.{AsksInRun, IsNextAnswer, RunState}
use Rattle.gpu_answers.specs.Device.{AnswersInRun, IsStep}
use Rattle.gpu_answers.specs.DeviceState.{DeviceState}
use Rattle.gpu_answers.specs.declared.question.Answer.{Answer}
use Rattle.gpu_answers.specs.declared.question.Answered.{Answered}
use Rattle.gpu_answers.specs.declared.question.Question.{Question}
use Rattle.gpu_answers.specs.declared.run.Stop.{Stop}
use Rattle.gpu_answers.specs.declared.run.Stop.TheVariants.{Open, Strayed}

-- whether a call is a question
abbrev pub asked_by : Event → ℕ
asked_by (Allocated size t flags answer) = 1
asked_by (Mapped r answer) = 1
asked_by (Deallocated name) = 0
asked_by (Unmapped name) = 0
asked_by (Flushed rs answer) = 0
asked_by (Invalidated rs answer) = 0
asked_by (BytesPut name offset bytes) = 0
asked_by (BytesGot name offset bytes) = 0

-- how many of the calls are
abbrev pub questions : List Event → ℕ
questions [] = 0
questions (e ∷ es) = asked_by e + questions es

-- What a call makes of the answers left: the run goes on, and at most this many are used; or it stops, since fewer were
-- left, or one was to another question.
abbrev Uses : ℕ → RunState → RunState → Type 0
Uses n old new = ((new.stop ≡ None) × (length old.left ≤ n + length new.left)) ⊎ ((length old.left < n) ⊎ (new.stop ≡ Some Strayed))

told_uses : (stop : Option Stop) (left : List Answered) (old : RunState) (question : Question) (told : Option Answer) (new : RunState)
    → stop ≡ old.stop → left ≡ old.left → IsNextAnswer stop left old question told new → stop ≡ None → Uses 1 old new
told_uses (Some s) left old question told new same_stop same_left is none = absurd (cc)
told_uses None [] old question told new same_stop same_left is none = inr (inl (let empty = ap length same_left in omega (arith, empty)))
told_uses None (next ∷ rest) old question told new same_stop same_left (inl used) none =
    inl (ap (λ (r : RunState). r.stop) used.2 ∙ sym same_stop, let one = ap length same_left in let left = ap (λ (r : RunState). length r.left) used.2 in omega (arith, one, left))
told_uses None (next ∷ rest) old question told new same_stop same_left (inr other) none = inr (inr (ap (λ (r : RunState). r.stop) other.2))

ask_uses : (old : RunState) (question : Question) (told : Option Answer) (new : RunState) → AsksInRun old question told new → old.stop ≡ None → Uses 1 old new
ask_uses old question told new asks none = told_uses old.stop old.left old question told new refl refl asks none

same_uses : (n : ℕ) (old new : RunState) → new ≡ old → old.stop ≡ None → Uses n old new
same_uses n old new same none =
    inl (ap (λ (r : RunState). r.stop) same ∙ none, let left = ap (λ (r : RunState). length r.left) same in omega (arith, left))

step_uses : (old : RunState) (e : Event) (new : RunState) → AnswersInRun old e new → old.stop ≡ None → Uses (asked_by e) old new
step_uses old (Allocated size t flags (Ok name)) new a none = elim (ask_uses old _ _ a.0 a.1 none) [
  | inl on ↦ inl (ap (λ (r : RunState). r.stop) a.2 ∙ on.0, let left = ap (λ (r : RunState). length r.left) a.2 in let used = on.1 in omega (arith, left, used))
  | inr (inl spent) ↦ inr (inl spent)
  | inr (inr strayed) ↦ inr (inr (ap (λ (r : RunState). r.stop) a.2 ∙ strayed))
]
step_uses old (Allocated size t flags (Err e)) new (inl no_room) none = same_uses 1 old new no_room.1 none
step_uses old (Allocated size t flags (Err e)) new (inr refused) none = ask_uses old _ refused.0 new refused.2 none
step_uses old (Mapped r (Ok u)) new a none = ask_uses old _ _ new a none
step_uses old (Mapped r (Err e)) new a none = ask_uses old _ a.0 new a.2 none
step_uses old (Deallocated name) new a none = same_uses 0 old new a none
step_uses old (Unmapped name) new a none = same_uses 0 old new a none
step_uses old (Flushed rs (Ok u)) new a none = same_uses 0 old new a none
step_uses old (Flushed rs (Err e)) new a none = absurd a
step_uses old (Invalidated rs (Ok u)) new a none = same_uses 0 old new a none
step_uses old (Invalidated rs (Err e)) new a none = absurd a
step_uses old (BytesPut name offset bytes) new a none = same_uses 0 old new a none
step_uses old (BytesGot name offset bytes) new a none = same_uses 0 old new a none

-- what stopped a run stays

told_stays : (stop : Option Stop) (left : List Answered) (old : RunState) (question : Question) (told : Option Answer) (new : RunState)
    → IsNextAnswer stop left old question told new → (why : Stop) → stop ≡ Some why → new ≡ old
told_stays (Some s) left old question told new is why same = is.1
told_stays None left old question told new is why same = absurd (cc)

ask_stays : (old : RunState) (question : Question) (told : Option Answer) (new : RunState) → AsksInRun old question told new → (why : Stop)
    → old.stop ≡ Some why → new.stop ≡ Some why
ask_stays old question told new asks why stopped =
    ap (λ (r : RunState). r.stop) (told_stays old.stop old.left old question told new asks why stopped) ∙ stopped

step_stays : (old : RunState) (e : Event) (new : RunState) → AnswersInRun old e new → (why : Stop) → old.stop ≡ Some why → new.stop ≡ Some why
step_stays old (Allocated size t flags (Ok name)) new a why stopped = ap (λ (r : RunState). r.stop) a.2 ∙ ask_stays old _ _ a.0 a.1 why stopped
step_stays old (Allocated size t flags (Err e)) new (inl no_room) why stopped = ap (λ (r : RunState). r.stop) no_room.1 ∙ stopped
step_stays old (Allocated size t flags (Err e)) new (inr refused) why stopped = ask_stays old _ refused.0 new refused.2 why stopped
step_stays old (Mapped r (Ok u)) new a why stopped = ask_stays old _ _ new a why stopped
step_stays old (Mapped r (Err e)) new a why stopped = ask_stays old _ a.0 new a.2 why stopped
step_stays old (Deallocated name) new a why stopped = ap (λ (r : RunState). r.stop) a ∙ stopped
step_stays old (Unmapped name) new a why stopped = ap (λ (r : RunState). r.stop) a ∙ stopped
step_stays old (Flushed rs (Ok u)) new a why stopped = ap (λ (r : RunState). r.stop) a ∙ stopped
step_stays old (Flushed rs (Err e)) new a why stopped = absurd a
step_stays old (Invalidated rs (Ok u)) new a why stopped = ap (λ (r : RunState). r.stop) a ∙ stopped
step_stays old (Invalidated rs (Err e)) new a why stopped = absurd a
step_stays old (BytesPut name offset bytes) new a why stopped = ap (λ (r : RunState). r.stop) a ∙ stopped
step_stays old (BytesGot name offset bytes) new a why stopped = ap (λ (r : RunState). r.stop) a ∙ stopped

pub run_stays : (old : DeviceState) (es : List Event) (new : DeviceState) → Chain IsStep old es new → (why : Stop) → old.run.stop ≡ Some why
    → new.run.stop ≡ Some why
run_stays old [] new same why stopped = ap (λ (s : DeviceState). s.run.stop) same ∙ stopped
run_stays old (e ∷ es) new run why stopped = run_stays run.0 es new run.2 why (step_stays old.run e run.0.run run.1.answers why stopped)

-- A run that ends with an open question used each answer for a question before that one.
pub open_uses_all : (old : DeviceState) (es : List Event) (new : DeviceState) → Chain IsStep old es new → old.run.stop ≡ None → (question : Question)
    → new.run.stop ≡ Some (Open question) → length old.run.left < questions es
open_uses_all old [] new same none question is = absurd (let still = ap (λ (s : DeviceState). s.run.stop) same in cc)
open_uses_all old (e ∷ es) new run none question is = elim (step_uses old.run e run.0.run run.1.answers none) [
  | inl on ↦ let rest = open_uses_all run.0 es new run.2 on.0 question is in let used = on.1 in omega (arith, rest, used)
  | inr (inl spent) ↦ omega (arith, spent)
  | inr (inr strayed) ↦ absurd (let stays = run_stays run.0 es new run.2 Strayed strayed in cc)
]
