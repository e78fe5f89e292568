-- What an allocation asks to be made, and so what its found question is for.
use Rattle.std.proofs.Common.{◌≡◌, ◌⊎◌, ◌↔◌, IsTrue, IfOk, inl, inr, ℕ, ◌<◌, Bool, true, false, cond, List, [], ◌∷◌, ◌++◌, length, Option, Some, None, Result, Ok, Err, MatchBool, nat_eq, nat_le, ◌==◌, ◌&&◌, not, All, arith, refl, sym, ◌∙◌, ap, subst}
use Rattle.std.proofs.lemmas.Bool.Decides.{nat_tests}
use Rattle.std.proofs.lemmas.List.Elements.{All-head, All-tail}
use Rattle.std.specs.Option.{IfSome}
use Rattle.gpu_alloc_types.specs.Device.{Chain, Event}
use Rattle.gpu_alloc_types.specs.Device.Event.{Allocated, Deallocated, Mapped, Unmapped, Flushed, Invalidated, BytesPut, BytesGot}
use Rattle.gpu_alloc_types.specs.Flags.{has_bit, transient, usage_bits}
use Rattle.gpu_alloc_base.specs.Case as case
use Rattle.gpu_alloc_base.specs.Case.{Case}
use Rattle.gpu_alloc_base.specs.NewChunk.{ChunkQuestion, LacksDeviceMemory, LacksHostMemory, IsReleased, made, whole_new_object}
use Rattle.gpu_alloc_base.specs.Sizes.{preferred_threshold, transient_threshold}
use Rattle.gpu_alloc_usage.proofs.Ranking.Candidates.{candidates-within}
use Rattle.gpu_alloc.specs.Allocation.{Allocates, AllocatesBy, AllocatesOptimal, IsAloneWhereServed, IsCandidatePassed, IsGranted, IsInPages, Plan, Refuses, TriesAll, fits_a_chunk, is_alone, is_small, plan, plan_in_pages, serves_alone, shares_by, strategy, unhinted}
use Rattle.gpu_alloc.specs.Candidates.{candidate}
use Rattle.gpu_alloc.specs.FitSharing.{fits_first}
use Rattle.gpu_alloc.specs.Request.{in_pages, is_required}
use Rattle.gpu_alloc.specs.State.{Block, State}
use Rattle.gpu_alloc.specs.Types.AllocationError.{AllocationError}
use Rattle.gpu_alloc.specs.Types.AllocationError.TheVariants.{OutOfDeviceMemory, OutOfHostMemory, TooManyObjects, NoCompatibleMemoryTypes}
use Rattle.gpu_alloc_block.specs.declared.sharing.Sharing.{Sharing}
use Rattle.gpu_alloc_block.specs.declared.sharing.Sharing.TheVariants.{Buddy, Fit}
use Rattle.gpu_alloc.specs.declared.request.Dedicated.{Dedicated}
use Rattle.gpu_alloc.specs.declared.request.Dedicated.TheVariants.{Required, Preferred}
use Rattle.gpu_alloc.specs.declared.request.Request.{Request}
use Rattle.gpu_answers.specs.Asking.{AsksInRun, IsNextAnswer, RunState, begun, map_question, open_in}
use Rattle.gpu_answers.specs.Device.{AnswersInRun, IsStep}
use Rattle.gpu_answers.specs.DeviceState.{DeviceState}
use Rattle.gpu_answers.specs.declared.question.Answer.{Answer}
use Rattle.gpu_answers.specs.declared.question.Answered.{Answered}
use Rattle.gpu_answers.specs.declared.question.Question.{Question}
use Rattle.gpu_answers.specs.declared.question.Question.TheVariants.{Allocate, MapMade, Map}
use Rattle.gpu_answers.specs.declared.run.Stop.{Stop}
use Rattle.gpu_answers.specs.declared.run.Stop.TheVariants.{Open, Strayed}
use Rattle.gpu_answers.proofs.Asked.{run_stays}
use Rattle.gpu_alloc.specs.Types.Kind.TheVariants.{Dedicated as DedicatedObject}
use Rattle.gpu_desk.proofs.Paged.{in_bytes}
use Rattle.gpu_desk.specs.Wishes.{MayCome, goes_by_pages, is_own, plan_for}
use Rattle.gpu_desk.specs.Calls.{AllocationDenied, denial_after}
use Rattle.gpu_desk.specs.Desk.{DeskState}
use Rattle.gpu_desk.specs.declared.denial.Denial.{Denial}
use Rattle.gpu_desk.specs.declared.denial.Denial.TheVariants as denied
use Rattle.gpu_desk.specs.declared.denial.Denial.TheVariants.{Refused}
use Rattle.gpu_desk.specs.declared.wish.Wish.{Wish}

-- Which objects are asked for.

-- a call that asks for an object asks for one of such a size and memory type
abbrev pub MakesSuch : (ℕ → ℕ → Type 0) → Event → Type 0
MakesSuch P (Allocated size t flags answer) = P size t
MakesSuch P (Mapped r answer) = Unit {0}
MakesSuch P (Deallocated name) = Unit {0}
MakesSuch P (Unmapped name) = Unit {0}
MakesSuch P (Flushed rs answer) = Unit {0}
MakesSuch P (Invalidated rs answer) = Unit {0}
MakesSuch P (BytesPut name offset bytes) = Unit {0}
MakesSuch P (BytesGot name offset bytes) = Unit {0}

-- and each of these does
abbrev pub AllSuch : (ℕ → ℕ → Type 0) → List Event → Type 0
AllSuch P [] = Unit {0}
AllSuch P (e ∷ es) = MakesSuch P e × AllSuch P es

module _ (P : ℕ → ℕ → Type 0) where
  both_such : (xs ys : List Event) → AllSuch P xs → AllSuch P ys → AllSuch P (xs ++ ys)
  both_such [] ys first rest = rest
  both_such (e ∷ xs) ys first rest = (first.0, both_such xs ys first.1 rest)

  none_such : (es : List Event) → es ≡ [] → AllSuch P es
  none_such es none = subst (AllSuch P) (sym none) tt

  module _ (q : ChunkQuestion) (fits : P q.size q.memory_type) where
    made_such : (object : ℕ) → AllSuch P (made q object)
    made_such object = (fits, elim q.mapped as (λ b. AllSuch P (cond b (Mapped (whole_new_object q object) (Ok tt) ∷ []) [])) [ true ↦ (tt, tt) | false ↦ tt ])

    device_such : (es : List Event) → LacksDeviceMemory q es → AllSuch P es
    device_such es (inl one) = subst (AllSuch P) (sym one) (fits, tt)
    device_such es (inr two) = subst (AllSuch P) (sym two.1.1) (fits, (tt, (tt, tt)))

    host_such : (es : List Event) → LacksHostMemory q es → AllSuch P es
    host_such es (inl one) = subst (AllSuch P) (sym one) (fits, tt)
    host_such es (inr two) = subst (AllSuch P) (sym two.1.1.2) (fits, (tt, (tt, tt)))

    release_such : (es : List Event) → IsReleased q es → AllSuch P es
    release_such es back = subst (AllSuch P) (sym back.1) (both_such (made q back.0) (Deallocated back.0 ∷ []) (made_such back.0) (tt, tt))

  module _ {B S : Type 0} (c : Case B S) (fits : P c.question.size c.question.memory_type) where
    passed_such : (es : List Event) → case.IsPassed c es → AllSuch P es
    passed_such es (inl unasked) = none_such es unasked.1
    passed_such es (inr asked) = device_such c.question fits es asked.1

    decided_such : (es : List Event) (answer : Result B AllocationError) (new : S) → case.Decides c es answer new → AllSuch P es
    decided_such es (Ok b) new (inl place) = none_such es place.asked
    decided_such es (Ok b) new (inr object) = subst (AllSuch P) (sym object.asked) (made_such c.question fits (c.object b))
    decided_such es (Err TooManyObjects) new d = none_such es d.1
    decided_such es (Err OutOfHostMemory) new (same, inl unasked) = none_such es unasked.0
    decided_such es (Err OutOfHostMemory) new (same, inr (asks, inl lacks)) = host_such c.question fits es lacks
    decided_such es (Err OutOfHostMemory) new (same, inr (asks, inr given)) = release_such c.question fits es given.1
    decided_such es (Err OutOfDeviceMemory) new d = absurd d
    decided_such es (Err NoCompatibleMemoryTypes) new d = absurd d

-- a candidate is asked for an object of its memory type, of the request's size where it serves by an object of its own
module _ (s : State) (r : Request) (t : ℕ) where
  shared_asks : (sharing : Sharing) (fits : Bool) → ((candidate (shares_by sharing fits) s r t).question.memory_type ≡ t)
      × (is_alone (shares_by sharing fits) ≡ true → (candidate (shares_by sharing fits) s r t).question.size ≡ r.size)
  shared_asks Buddy fits = (refl, λ alone. absurd (let not : false ≡ true = alone in cc))
  shared_asks Fit true = (refl, λ alone. absurd (let not : false ≡ true = alone in cc))
  shared_asks Fit false = (refl, λ alone. refl)

  unhinted_asks : ((candidate (unhinted s r t) s r t).question.memory_type ≡ t) × (is_alone (unhinted s r t) ≡ true → (candidate (unhinted s r t) s r t).question.size ≡ r.size)
  unhinted_asks = by (has_bit (usage_bits r.usage) transient) refl (is_small s r (transient_threshold s.config) t && fits_a_chunk s r t) refl (is_small s r s.config.dedicated_threshold t) refl
    where
      by : (a : Bool) → has_bit (usage_bits r.usage) transient ≡ a → (b : Bool) → (is_small s r (transient_threshold s.config) t && fits_a_chunk s r t) ≡ b
          → (c : Bool) → is_small s r s.config.dedicated_threshold t ≡ c
          → ((candidate (unhinted s r t) s r t).question.memory_type ≡ t) × (is_alone (unhinted s r t) ≡ true → (candidate (unhinted s r t) s r t).question.size ≡ r.size)
      by true a true b c e = rw (a, b) (refl, λ alone. absurd (let not : false ≡ true = alone in cc))
      by true a false b c e = rw (a, b) (refl, λ alone. refl)
      by false a b e true c = rw (a, c) (shared_asks s.sharing (fits_first s r t))
      by false a b e false c = rw (a, c) (refl, λ alone. refl)

  pub strategy_asks : (hint : Option Dedicated) → ((candidate (strategy s r hint t) s r t).question.memory_type ≡ t)
      × (is_alone (strategy s r hint t) ≡ true → (candidate (strategy s r hint t) s r t).question.size ≡ r.size)
  strategy_asks None = unhinted_asks
  strategy_asks (Some Required) = (refl, λ alone. refl)
  strategy_asks (Some Preferred) = by (nat_le (preferred_threshold s.config) r.size) refl
    where
      by : (b : Bool) → nat_le (preferred_threshold s.config) r.size ≡ b → ((candidate (strategy s r (Some Preferred) t) s r t).question.memory_type ≡ t)
          × (is_alone (strategy s r (Some Preferred) t) ≡ true → (candidate (strategy s r (Some Preferred) t) s r t).question.size ≡ r.size)
      by true e = rw e (refl, λ alone. refl)
      by false e = rw e unhinted_asks

-- What an allocation asks for: objects of its candidates, and of the size that a candidate was asked where it serves by
-- an object of its own.
module _ (s : State) (p : Plan) (Q : ℕ → Type 0) where
  abbrev pub IsFor : ℕ → ℕ → Type 0
  IsFor size t = Q t × (is_own s p t ≡ true → size ≡ (p.asked t).request.size)

  abbrev pub case_of : ℕ → Case Block State
  case_of t = candidate (strategy s (p.asked t).request (p.asked t).hint t) s (p.asked t).request t

  fits_case : (t : ℕ) → Q t → IsFor (case_of t).question.size (case_of t).question.memory_type
  fits_case t is =
      let asks = strategy_asks s (p.asked t).request t (p.asked t).hint in
      subst (IsFor (case_of t).question.size) (sym asks.0) (is, asks.1)

  one_such : (t : ℕ) (es : List Event) → Q t → IsCandidatePassed s (p.asked t).request (p.asked t).hint t es → AllSuch IsFor es
  one_such t es is (inl small) = none_such IsFor es small.1
  one_such t es is (inr served) = passed_such IsFor (case_of t) (fits_case t is) es served.1

  all_such : (ts : List ℕ) (es : List Event) (answer : Result Block AllocationError) (new : State) → All Q ts → TriesAll s p.asked ts es answer new
      → AllSuch IsFor es
  all_such [] es answer new are tried = none_such IsFor es tried.0
  all_such (t ∷ ts) es answer new are (inl (first, rest, both, passed, later)) =
      subst (AllSuch IsFor) (sym both) (both_such IsFor first rest (one_such t first (All-head Q t ts are) passed) (all_such ts rest answer new (All-tail Q t ts are) later))
  all_such (t ∷ ts) es answer new are (inr decides) = decided_such IsFor (case_of t) (fits_case t (All-head Q t ts are)) es answer new decides.1

  -- nothing, where it is refused for its size
  allocation_such : (es : List Event) (answer : Result Block AllocationError) (new : State) → All Q p.candidates → AllocatesBy s p es answer new
      → AllSuch (λ size t. (p.too_large ≡ false) × IsFor size t) es
  allocation_such es answer new are h = by p.too_large refl (is_required p.hint && (s.remaining == 0)) (nat_eq (length p.candidates) 0) h
    where
      P : ℕ → ℕ → Type 0
      P size t = (p.too_large ≡ false) × IsFor size t

      with_small : p.too_large ≡ false → (es : List Event) → AllSuch IsFor es → AllSuch P es
      with_small small [] all = tt
      with_small small (Allocated size t flags answer ∷ es) all = ((small, all.0), with_small small es all.1)
      with_small small (Mapped r answer ∷ es) all = (tt, with_small small es all.1)
      with_small small (Deallocated name ∷ es) all = (tt, with_small small es all.1)
      with_small small (Unmapped name ∷ es) all = (tt, with_small small es all.1)
      with_small small (Flushed rs answer ∷ es) all = (tt, with_small small es all.1)
      with_small small (Invalidated rs answer ∷ es) all = (tt, with_small small es all.1)
      with_small small (BytesPut name offset bytes ∷ es) all = (tt, with_small small es all.1)
      with_small small (BytesGot name offset bytes ∷ es) all = (tt, with_small small es all.1)

      by : (a : Bool) → p.too_large ≡ a → (b c : Bool) → MatchBool a (Refuses s OutOfDeviceMemory es answer new) (
          MatchBool b (Refuses s TooManyObjects es answer new) (
          MatchBool c (Refuses s NoCompatibleMemoryTypes es answer new) (TriesAll s p.asked p.candidates es answer new)))
          → AllSuch P es
      by true large b c h = none_such P es h.0
      by false small true c h = none_such P es h.0
      by false small false true h = none_such P es h.0
      by false small false false h = with_small small es (all_such p.candidates es answer new are h)

-- Which question is found.

not_mapping : (made : Option ℕ) (object offset len size t flags : ℕ) → map_question made object offset len ≡ Allocate size t flags → ⊥
not_mapping None object offset len size t flags is = absurd (cc)
not_mapping (Some m) object offset len size t flags is = by (m == object) is
  where
    by : (b : Bool) → cond b (MapMade offset len) (Map object offset len) ≡ Allocate size t flags → ⊥
    by true is = absurd (cc)
    by false is = absurd (cc)

-- why a run stops at a question
told_stops : (stop : Option Stop) (left : List Answered) (old : RunState) (question : Question) (told : Option Answer) (new : RunState)
    → stop ≡ old.stop → IsNextAnswer stop left old question told new → stop ≡ None
    → (new.stop ≡ None) ⊎ ((why : Stop) × (new.stop ≡ Some why) × ((why ≡ Open question) ⊎ (why ≡ Strayed)))
told_stops (Some why) left old question told new same is none = absurd (cc)
told_stops None [] old question told new same is none = inr (Open question, ap (λ (r : RunState). r.stop) is.1, inl refl)
told_stops None (next ∷ rest) old question told new same (inl used) none = inl (ap (λ (r : RunState). r.stop) used.2 ∙ sym same)
told_stops None (next ∷ rest) old question told new same (inr other) none = inr (Strayed, ap (λ (r : RunState). r.stop) other.2, inr refl)

ask_stops : (old : RunState) (question : Question) (told : Option Answer) (new : RunState) → AsksInRun old question told new → old.stop ≡ None
    → (new.stop ≡ None) ⊎ ((why : Stop) × (new.stop ≡ Some why) × ((why ≡ Open question) ⊎ (why ≡ Strayed)))
ask_stops old question told new asks none = told_stops old.stop old.left old question told new refl asks none

module _ (P : ℕ → ℕ → Type 0) (size t flags : ℕ) where
  -- the run goes on, or it stops, and where the question is found it is such
  abbrev Stops : RunState → Type 0
  Stops new = (new.stop ≡ None) ⊎ ((why : Stop) × (new.stop ≡ Some why) × (why ≡ Open (Allocate size t flags) → P size t))

  goes_on : (old new : RunState) → new ≡ old → old.stop ≡ None → Stops new
  goes_on old new same none = inl (ap (λ (r : RunState). r.stop) same ∙ none)

  stops_made : (old : RunState) (a b c : ℕ) (told : Option Answer) (new : RunState) → AsksInRun old (Allocate a b c) told new → old.stop ≡ None → P a b → Stops new
  stops_made old a b c told new asks none such = elim (ask_stops old (Allocate a b c) told new asks none) [
    | inl on ↦ inl on
    | inr (why, is, inl found) ↦ inr (
      why,
      is,
      λ e.
          let one : Open (Allocate a b c) ≡ Open (Allocate size t flags) = sym found ∙ e in
          let same_size : a ≡ size = cc in
          let same_type : b ≡ t = cc in
          subst (λ n. P n t) same_size (subst (P a) same_type such),
    )
    | inr (why, is, inr strayed) ↦ inr (why, is, λ e. absurd (let one : Strayed ≡ Open (Allocate size t flags) = sym strayed ∙ e in cc))
  ]

  stops_mapped : (old : RunState) (made : Option ℕ) (object offset len : ℕ) (told : Option Answer) (new : RunState)
      → AsksInRun old (map_question made object offset len) told new → old.stop ≡ None → Stops new
  stops_mapped old made object offset len told new asks none = elim (ask_stops old (map_question made object offset len) told new asks none) [
    | inl on ↦ inl on
    | inr (why, is, inl found) ↦ inr (
      why,
      is,
      λ e.
          let one : Open (map_question made object offset len) ≡ Open (Allocate size t flags) = sym found ∙ e in
          absurd (not_mapping made object offset len size t flags (let same : map_question made object offset len ≡ Allocate size t flags = cc in same)),
    )
    | inr (why, is, inr strayed) ↦ inr (why, is, λ e. absurd (let one : Strayed ≡ Open (Allocate size t flags) = sym strayed ∙ e in cc))
  ]

  step_stops : (old : RunState) (e : Event) (new : RunState) → AnswersInRun old e new → old.stop ≡ None → MakesSuch P e → Stops new
  step_stops old (Allocated a b c (Ok name)) new h none such = elim (stops_made old a b c _ h.0 h.1 none such) [
    | inl on ↦ inl (ap (λ (r : RunState). r.stop) h.2 ∙ on)
    | inr (why, is, then) ↦ inr (why, ap (λ (r : RunState). r.stop) h.2 ∙ is, then)
  ]
  step_stops old (Allocated a b c (Err e)) new (inl no_room) none such = goes_on old new no_room.1 none
  step_stops old (Allocated a b c (Err e)) new (inr refused) none such = stops_made old a b c refused.0 new refused.2 none such
  step_stops old (Mapped r (Ok u)) new h none such = stops_mapped old old.made r.object r.offset r.size _ new h none
  step_stops old (Mapped r (Err e)) new h none such = stops_mapped old old.made r.object r.offset r.size h.0 new h.2 none
  step_stops old (Deallocated name) new h none such = goes_on old new h none
  step_stops old (Unmapped name) new h none such = goes_on old new h none
  step_stops old (Flushed rs (Ok u)) new h none such = goes_on old new h none
  step_stops old (Flushed rs (Err e)) new h none such = absurd h
  step_stops old (Invalidated rs (Ok u)) new h none such = goes_on old new h none
  step_stops old (Invalidated rs (Err e)) new h none such = absurd h
  step_stops old (BytesPut name offset bytes) new h none such = goes_on old new h none
  step_stops old (BytesGot name offset bytes) new h none such = goes_on old new h none

  pub open_is_such : (old : DeviceState) (es : List Event) (new : DeviceState) → Chain IsStep old es new → old.run.stop ≡ None → AllSuch P es
      → new.run.stop ≡ Some (Open (Allocate size t flags)) → P size t
  open_is_such old [] new same none all found = absurd (let still = ap (λ (d : DeviceState). d.run.stop) same in cc)
  open_is_such old (e ∷ es) new run none all found = elim (step_stops old.run e run.0.run run.1.answers none all.0) [
    | inl on ↦ open_is_such run.0 es new run.2 on all.1 found
    | inr (why, is, then) ↦ then (let stays = run_stays run.0 es new run.2 why is in let same : why ≡ Open (Allocate size t flags) = cc in same)
  ]

-- The found question of a request's run.

module _ (s : State) (granularity : ℕ) (r : Request) (w : Wish) where
  abbrev plan_is : Plan
  plan_is = plan_for s granularity r w

  known : All (λ t. t < length s.properties.memory_types) plan_is.candidates
  known = elim (goes_by_pages granularity w) as (λ b. All (λ t. t < length s.properties.memory_types) (cond b (plan_in_pages s r w.dedicated granularity) (plan s r w.dedicated)).candidates) [
    | true ↦ candidates-within s.properties.memory_types (usage_bits r.usage) r.memory_types
    | false ↦ candidates-within s.properties.memory_types (usage_bits r.usage) r.memory_types
  ]

  -- what a candidate is asked that serves by an object of its own is of the size of the request
  own_size : (t : ℕ) → is_own s plan_is t ≡ true → (plan_is.asked t).request.size ≡ r.size
  own_size t own = by (goes_by_pages granularity w) own
    where
      by : (b : Bool) → is_own s (cond b (plan_in_pages s r w.dedicated granularity) (plan s r w.dedicated)) t ≡ true
          → ((cond b (plan_in_pages s r w.dedicated granularity) (plan s r w.dedicated)).asked t).request.size ≡ r.size
      by false own = refl
      by true own = in_turn (serves_alone s (in_pages granularity r) w.dedicated t) refl own
        where
          in_turn : (alone : Bool) → serves_alone s (in_pages granularity r) w.dedicated t ≡ alone
              → is_own s (plan_in_pages s r w.dedicated granularity) t ≡ true
              → ((plan_in_pages s r w.dedicated granularity).asked t).request.size ≡ r.size
          in_turn true alone own = rw alone refl
          in_turn false alone own = absurd (let not : is_own s (plan_in_pages s r w.dedicated granularity) t ≡ false = rw alone alone in cc)

  module _ (old new : DeviceState) (es : List Event) (answer : Result Block AllocationError) (after : State) (run : Chain IsStep old es new)
      (begins : old.run.stop ≡ None) (decided : AllocatesBy s plan_is es answer after) where
    such : (size t flags : ℕ) → new.run.stop ≡ Some (Open (Allocate size t flags))
        → (plan_is.too_large ≡ false) × IsFor s plan_is (λ t. t < length s.properties.memory_types) size t
    such size t flags found =
        open_is_such (λ size t. (plan_is.too_large ≡ false) × IsFor s plan_is (λ t. t < length s.properties.memory_types) size t) size t flags old es new run begins
        (allocation_such s plan_is (λ t. t < length s.properties.memory_types) es answer after known decided) found

    pub own_question_size : (size t flags : ℕ) → new.run.stop ≡ Some (Open (Allocate size t flags)) → is_own s plan_is t ≡ true → size ≡ r.size
    own_question_size size t flags found own = (such size t flags found).1.1 own ∙ own_size t own

    pub may_come : (stop : Option Stop) → new.run.stop ≡ stop → IfSome (open_in stop) (MayCome s plan_is)
    may_come None is = tt
    may_come (Some Strayed) is = tt
    may_come (Some (Open (Allocate size t flags))) is = let one = such size t flags is in (one.0, one.1.0)
    may_come (Some (Open (MapMade offset size))) is = tt
    may_come (Some (Open (Map object offset size))) is = tt

-- what is said of a found question is true of it
pub same_denial : (own : Bool) (asks : Question → Bool) (stop : Option Stop) (refusal : Denial) → IfSome (open_in stop) (λ q. own ≡ asks q)
    → denial_after (λ q. own) stop refusal ≡ denial_after asks stop refusal
same_denial own asks None refusal is = refl
same_denial own asks (Some Strayed) refusal is = refl
same_denial own asks (Some (Open question)) refusal is = ap (denied.Open question) is

opened : (own : Question → Bool) (stop : Option Stop) (e : AllocationError) (question : Question) (is : Bool)
    → denied.Open question is ≡ denial_after own stop (Refused e) → (stop ≡ Some (Open question)) × (own question ≡ is)
opened own None e question is same = absurd (cc)
opened own (Some Strayed) e question is same = absurd (cc)
opened own (Some (Open asked)) e question is same =
    let one : question ≡ asked = cc in
    let told : is ≡ own asked = cc in
    (ap (λ q. Some (Open q)) (sym one), ap own one ∙ sym told)

-- a question for an object of the block's own is of the size of the request
pub own_is_as_asked : (s : DeskState) (r : Request) (w : Wish) (answers : List Answered) (size t flags : ℕ)
    → AllocationDenied s r w answers (denied.Open (Allocate size t flags) true) → size ≡ r.size
unfolding AllocationDenied
own_is_as_asked s r w answers size t flags (inl fault) = absurd (let is = fault.1 in cc)
own_is_as_asked s r w answers size t flags (inr (able, (es, after, run, (e, decided, why)))) =
    let found = opened _ after.run.stop e (Allocate size t flags) true why in
    own_question_size s.allocator s.granularity r w (record (s.device) { run = begun answers }) after es (Err e) s.allocator run refl decided size t flags found.0 found.1

-- How a wish is asked.

module _ (s : State) (granularity : ℕ) (r : Request) (w : Wish) where
  plan_pages : goes_by_pages granularity w ≡ true → plan_for s granularity r w ≡ plan_in_pages s r w.dedicated granularity
  plan_pages is = ap (λ b. cond b (plan_in_pages s r w.dedicated granularity) (plan s r w.dedicated)) is

  plan_plain : (hint : Option Dedicated) → goes_by_pages granularity w ≡ false → w.dedicated ≡ hint → plan_for s granularity r w ≡ plan s r hint
  plan_plain hint is same = ap (λ b. cond b (plan_in_pages s r w.dedicated granularity) (plan s r w.dedicated)) is ∙ ap (plan s r) same

  pub by_pages : (es : List Event) (answer : Result Block AllocationError) (new : State) → goes_by_pages granularity w ≡ true
      → AllocatesOptimal s r w.dedicated granularity es answer new → AllocatesBy s (plan_for s granularity r w) es answer new
  unfolding AllocatesOptimal
  by_pages es answer new is h = subst (λ p. AllocatesBy s p es answer new) (sym (plan_pages is)) h

  pub by_bytes : (hint : Option Dedicated) (es : List Event) (answer : Result Block AllocationError) (new : State) → goes_by_pages granularity w ≡ false
      → w.dedicated ≡ hint → Allocates s r hint es answer new → AllocatesBy s (plan_for s granularity r w) es answer new
  unfolding Allocates
  by_bytes hint es answer new is same h = subst (λ p. AllocatesBy s p es answer new) (sym (plan_plain hint is same)) h

  pub own_by_pages : (t : ℕ) → goes_by_pages granularity w ≡ true → is_own s (plan_for s granularity r w) t ≡ serves_alone s (in_pages granularity r) w.dedicated t
  own_by_pages t is = ap (λ p. is_own s p t) (plan_pages is) ∙ by (serves_alone s (in_pages granularity r) w.dedicated t) refl
    where
      by : (alone : Bool) → serves_alone s (in_pages granularity r) w.dedicated t ≡ alone
          → is_own s (plan_in_pages s r w.dedicated granularity) t ≡ serves_alone s (in_pages granularity r) w.dedicated t
      by true alone = rw alone refl
      by false alone = rw alone alone

  pub own_by_bytes : (hint : Option Dedicated) (t : ℕ) → goes_by_pages granularity w ≡ false → w.dedicated ≡ hint
      → is_own s (plan_for s granularity r w) t ≡ serves_alone s r hint t
  own_by_bytes hint t is same = ap (λ p. is_own s p t) (plan_plain hint is same)

  -- an optimal request that goes by bytes is one where pages are of a byte
  pub of_bytes : goes_by_pages granularity w ≡ false → w.optimal ≡ true → granularity ≡ 1
  of_bytes is optimal =
      let one : (true && not (granularity == 1)) ≡ false = subst (λ b. (b && not (granularity == 1)) ≡ false) optimal is in
      grind (arith, nat_tests)

  -- what a grant says about its object, by what its memory type was asked
  pub alone_then : (asked : Request) (hint : Option Dedicated) (answer : Result Block AllocationError)
      → ((t : ℕ) → is_own s (plan_for s granularity r w) t ≡ serves_alone s asked hint t) → IfOk answer (IsAloneWhereServed s asked hint)
      → IfOk answer (λ b. IsTrue (is_own s (plan_for s granularity r w) b.memory_type) ↔ (b.kind ≡ DedicatedObject))
  unfolding IsAloneWhereServed
  alone_then asked hint (Ok b) same alone = subst (λ x. IsTrue x ↔ (b.kind ≡ DedicatedObject)) (sym (same b.memory_type)) alone
  alone_then asked hint (Err e) same alone = tt

  pub bytes_then : (answer : Result Block AllocationError) (new : State) → goes_by_pages granularity w ≡ false → IfOk answer (IsGranted s r new)
      → IfOk answer (λ b. w.optimal ≡ true → IsInPages granularity r.size b)
  bytes_then (Ok b) new is granted = λ optimal. subst (λ g. IsInPages g r.size b) (sym (of_bytes is optimal)) (in_bytes r.size b granted.enough)
  bytes_then (Err e) new is granted = tt
