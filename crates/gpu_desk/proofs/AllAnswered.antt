-- Where a request is granted, each question of its run had an answer, to that question.
use Rattle.std.proofs.Common.{◌≡◌, inl, inr, ℕ, Bool, true, false, cond, List, [], ◌∷◌, ◌++◌, length, Option, Some, None, Ok, Err, MatchBool, nat_eq, ◌==◌, ◌&&◌, refl, sym, ◌∙◌, ap, subst}
use Rattle.gpu_alloc_types.specs.Device.{Chain, Event, Range}
use Rattle.gpu_alloc_types.specs.Device.Event.{Allocated, Deallocated, Mapped, Unmapped, Flushed, Invalidated, BytesPut, BytesGot}
use Rattle.gpu_alloc_types.specs.declared.types.DeviceMapError.TheVariants as mapping
use Rattle.gpu_alloc_types.specs.declared.types.OutOfMemory.TheVariants as memory
use Rattle.gpu_alloc_base.specs.Case as case
use Rattle.gpu_alloc_base.specs.Case.{Case}
use Rattle.gpu_alloc_base.specs.NewChunk.{ChunkQuestion, LacksDeviceMemory, made, whole_new_object}
use Rattle.gpu_alloc.specs.Allocation.{AllocatesBy, IsCandidatePassed, Plan, Refuses, TriesAll, strategy}
use Rattle.gpu_alloc.specs.Candidates.{candidate}
use Rattle.gpu_alloc.specs.Request.{is_required}
use Rattle.gpu_alloc.specs.State.{Block, State}
use Rattle.gpu_alloc.specs.Types.AllocationError.TheVariants.{OutOfDeviceMemory, TooManyObjects, NoCompatibleMemoryTypes}
use Rattle.gpu_answers.specs.Asking.{AsksInRun, IsNextAnswer, RunState, allocation_refusal, map_refusal}
use Rattle.gpu_answers.specs.Device.{AnswersInRun, IsStep}
use Rattle.gpu_answers.specs.DeviceState.{DeviceState}
use Rattle.gpu_answers.specs.declared.question.Answer.{Answer}
use Rattle.gpu_answers.specs.declared.question.Answered.{Answered}
use Rattle.gpu_answers.specs.declared.question.Question.{Question}
use Rattle.gpu_answers.specs.declared.run.Stop.{Stop}

-- Runs.

-- the call ended as a question does only by an answer to it, and not for want of one
abbrev pub IsTold : Event → Type 0
IsTold (Allocated size t flags (Ok name)) = Unit {0}
IsTold (Allocated size t flags (Err e)) = e ≡ memory.OutOfDeviceMemory
IsTold (Mapped r (Ok u)) = Unit {0}
IsTold (Mapped r (Err e)) = e ≡ mapping.OutOfDeviceMemory
IsTold (Deallocated name) = Unit {0}
IsTold (Unmapped name) = Unit {0}
IsTold (Flushed rs answer) = Unit {0}
IsTold (Invalidated rs answer) = Unit {0}
IsTold (BytesPut name offset bytes) = Unit {0}
IsTold (BytesGot name offset bytes) = Unit {0}

abbrev pub AreTold : List Event → Type 0
AreTold [] = Unit {0}
AreTold (e ∷ es) = IsTold e × AreTold es

told_goes_on : (stop : Option Stop) (left : List Answered) (old : RunState) (question : Question) (answer : Answer) (new : RunState)
    → stop ≡ old.stop → IsNextAnswer stop left old question (Some answer) new → new.stop ≡ None
told_goes_on (Some why) left old question answer new same is = absurd (let none = is.0 in cc)
told_goes_on None [] old question answer new same is = absurd (let none = is.0 in cc)
told_goes_on None (next ∷ rest) old question answer new same (inl used) = ap (λ (r : RunState). r.stop) used.2 ∙ sym same
told_goes_on None (next ∷ rest) old question answer new same (inr other) = absurd (let none = other.1 in cc)

ask_goes_on : (old : RunState) (question : Question) (answer : Answer) (new : RunState) → AsksInRun old question (Some answer) new → new.stop ≡ None
ask_goes_on old question answer new asks = told_goes_on old.stop old.left old question answer new refl asks

not_made_goes_on : (old : RunState) (question : Question) (told : Option Answer) (new : RunState) → AsksInRun old question told new
    → allocation_refusal told ≡ memory.OutOfDeviceMemory → new.stop ≡ None
not_made_goes_on old question None new asks is = absurd (cc)
not_made_goes_on old question (Some answer) new asks is = ask_goes_on old question answer new asks

not_mapped_goes_on : (old : RunState) (question : Question) (told : Option Answer) (new : RunState) → AsksInRun old question told new
    → map_refusal told ≡ mapping.OutOfDeviceMemory → new.stop ≡ None
not_mapped_goes_on old question None new asks is = absurd (cc)
not_mapped_goes_on old question (Some answer) new asks is = ask_goes_on old question answer new asks

same_goes_on : (old new : RunState) → new ≡ old → old.stop ≡ None → new.stop ≡ None
same_goes_on old new same none = ap (λ (r : RunState). r.stop) same ∙ none

step_goes_on : (old : RunState) (e : Event) (new : RunState) → AnswersInRun old e new → old.stop ≡ None → IsTold e → new.stop ≡ None
step_goes_on old (Allocated size t flags (Ok name)) new a none told = ap (λ (r : RunState). r.stop) a.2 ∙ ask_goes_on old _ _ a.0 a.1
step_goes_on old (Allocated size t flags (Err e)) new (inl no_room) none told = same_goes_on old new no_room.1 none
step_goes_on old (Allocated size t flags (Err e)) new (inr refused) none told = not_made_goes_on old _ refused.0 new refused.2 (sym refused.3 ∙ told)
step_goes_on old (Mapped r (Ok u)) new a none told = ask_goes_on old _ _ new a
step_goes_on old (Mapped r (Err e)) new a none told = not_mapped_goes_on old _ a.0 new a.2 (sym a.3 ∙ told)
step_goes_on old (Deallocated name) new a none told = same_goes_on old new a none
step_goes_on old (Unmapped name) new a none told = same_goes_on old new a none
step_goes_on old (Flushed rs (Ok u)) new a none told = same_goes_on old new a none
step_goes_on old (Flushed rs (Err e)) new a none told = absurd a
step_goes_on old (Invalidated rs (Ok u)) new a none told = same_goes_on old new a none
step_goes_on old (Invalidated rs (Err e)) new a none told = absurd a
step_goes_on old (BytesPut name offset bytes) new a none told = same_goes_on old new a none
step_goes_on old (BytesGot name offset bytes) new a none told = same_goes_on old new a none

run_goes_on : (old : DeviceState) (es : List Event) (new : DeviceState) → Chain IsStep old es new → old.run.stop ≡ None → AreTold es
    → new.run.stop ≡ None
run_goes_on old [] new same none told = ap (λ (d : DeviceState). d.run.stop) same ∙ none
run_goes_on old (e ∷ es) new run none told =
    run_goes_on run.0 es new run.2 (step_goes_on old.run e run.0.run run.1.answers none told.0) told.1

-- What an allocation asks.

both_told : (xs ys : List Event) → AreTold xs → AreTold ys → AreTold (xs ++ ys)
both_told [] ys first rest = rest
both_told (e ∷ xs) ys first rest = (first.0, both_told xs ys first.1 rest)

none_told : (es : List Event) → es ≡ [] → AreTold es
none_told es none = subst AreTold (sym none) tt

made_told : (q : ChunkQuestion) (object : ℕ) → AreTold (made q object)
made_told q object = (tt, elim q.mapped as (λ b. AreTold (cond b (Mapped (whole_new_object q object) (Ok tt) ∷ []) [])) [ true ↦ (tt, tt) | false ↦ tt ])

device_told : (q : ChunkQuestion) (es : List Event) → LacksDeviceMemory q es → AreTold es
device_told q es (inl one) = subst AreTold (sym one) (refl, tt)
device_told q es (inr two) = subst AreTold (sym two.1.1) (tt, (refl, (tt, tt)))

module _ (s : State) (p : Plan) where
  abbrev case_at : ℕ → Case Block State
  case_at t = candidate (strategy s (p.asked t).request (p.asked t).hint t) s (p.asked t).request t

  one_told : (t : ℕ) (es : List Event) → IsCandidatePassed s (p.asked t).request (p.asked t).hint t es → AreTold es
  one_told t es (inl small) = none_told es small.1
  one_told t es (inr (enough, inl unasked)) = none_told es unasked.1
  one_told t es (inr (enough, inr asked)) = device_told (case_at t).question es asked.1

  decided_told : (t : ℕ) (es : List Event) (b : Block) (new : State) → case.Decides (case_at t) es (Ok b) new → AreTold es
  decided_told t es b new (inl place) = none_told es place.asked
  decided_told t es b new (inr object) = subst AreTold (sym object.asked) (made_told (case_at t).question ((case_at t).object b))

  all_told : (ts : List ℕ) (es : List Event) (b : Block) (new : State) → TriesAll s p.asked ts es (Ok b) new → AreTold es
  all_told [] es b new tried = none_told es tried.0
  all_told (t ∷ ts) es b new (inl (first, rest, both, passed, later)) =
      subst AreTold (sym both) (both_told first rest (one_told t first passed) (all_told ts rest b new later))
  all_told (t ∷ ts) es b new (inr decides) = decided_told t es b new decides.1

  allocation_told : (es : List Event) (b : Block) (new : State) → AllocatesBy s p es (Ok b) new → AreTold es
  allocation_told es b new h = by p.too_large (is_required p.hint && (s.remaining == 0)) (nat_eq (length p.candidates) 0) h
    where
      by : (large many none : Bool) → MatchBool large (Refuses s OutOfDeviceMemory es (Ok b) new) (
          MatchBool many (Refuses s TooManyObjects es (Ok b) new) (
          MatchBool none (Refuses s NoCompatibleMemoryTypes es (Ok b) new) (TriesAll s p.asked p.candidates es (Ok b) new)))
          → AreTold es
      by true many none h = none_told es h.0
      by false true none h = none_told es h.0
      by false false true h = none_told es h.0
      by false false false h = all_told p.candidates es b new h

  pub grant_is_answered : (old : DeviceState) (es : List Event) (new : DeviceState) → Chain IsStep old es new → old.run.stop ≡ None
      → (b : Block) (after : State) → AllocatesBy s p es (Ok b) after → new.run.stop ≡ None
  grant_is_answered old es new run none b after decided = run_goes_on old es new run none (allocation_told es b after decided)

-- What a mapping asks.

pub mapping_is_answered : (old : DeviceState) (shared : Bool) (r : Range) (new : DeviceState)
    → Chain IsStep old (cond shared [] (Mapped r (Ok tt) ∷ [])) new → old.run.stop ≡ None → new.run.stop ≡ None
mapping_is_answered old true r new run none = run_goes_on old [] new run none tt
mapping_is_answered old false r new run none = run_goes_on old (Mapped r (Ok tt) ∷ []) new run none (tt, tt)
