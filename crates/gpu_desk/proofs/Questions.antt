-- How many questions an allocation asks: two for each candidate at most.
use Rattle.std.proofs.Common.{◌≡◌, inl, inr, ℕ, suc, ◌+◌, ◌*◌, ◌^◌, ◌<◌, ◌≤◌, Bool, true, false, cond, List, [], ◌∷◌, ◌++◌, length, Option, Some, None, Result, Ok, Err, MatchBool, nat_lt, nat_eq, ◌==◌, ◌&&◌, refl, ◌∙◌, ap, arith}
use Rattle.std.proofs.lemmas.Bool.Decides.{eqb_tells, nat_tests}
use Rattle.std.proofs.lemmas.Bool.{eqb-true}
use Rattle.std.proofs.lemmas.List.Elements.{All-from_get_or, All-weaker, recursion_from_All}
use Rattle.std.proofs.lemmas.Map.Keys.{IsDistinct-cons}
use Rattle.std.proofs.lemmas.Map.Steps.{length-le_from_distinct_below}
use Rattle.std.proofs.lemmas.Map.Views.{Contains-from_any}
use Rattle.std.proofs.lemmas.Nat.Bits.{bit_at_above}
use Rattle.std.specs.Int.{bit_at}
use Rattle.std.specs.List.{IsDistinct, list_any}
use Rattle.gpu_alloc_types.specs.Device.{Event}
use Rattle.gpu_alloc_types.specs.Device.Event.{Allocated, Deallocated, Mapped}
use Rattle.gpu_alloc_types.specs.Flags.{usage_bits}
use Rattle.gpu_alloc_types.specs.declared.types.MemoryType.{MemoryType}
use Rattle.gpu_alloc_base.specs.Case as case
use Rattle.gpu_alloc_base.specs.Case.{Case}
use Rattle.gpu_alloc_base.specs.NewChunk.{ChunkQuestion, LacksDeviceMemory, LacksHostMemory, IsReleased, made, whole_new_object}
use Rattle.gpu_alloc_usage.specs.Ranking.{Before, IsRankingWithin, IsRising, candidates, implied, key_of}
use Rattle.gpu_alloc_usage.proofs.Ranking.Candidates.{candidates_IsRankingWithin}
use Rattle.gpu_alloc.specs.Allocation.{AllocatesBy, IsCandidatePassed, Plan, Refuses, TriesAll, candidates_of, plan, plan_in_pages, strategy}
use Rattle.gpu_alloc.specs.Candidates.{candidate}
use Rattle.gpu_alloc.specs.Request.{is_required}
use Rattle.gpu_alloc.specs.State.{Block, State}
use Rattle.gpu_alloc.specs.Types.AllocationError.{AllocationError}
use Rattle.gpu_alloc.specs.Types.AllocationError.TheVariants.{OutOfDeviceMemory, OutOfHostMemory, TooManyObjects, NoCompatibleMemoryTypes}
use Rattle.gpu_alloc.specs.declared.request.Request.{Request}
use Rattle.gpu_answers.specs.Asking.{begun}
use Rattle.gpu_answers.specs.declared.question.Answered.{Answered}
use Rattle.gpu_answers.specs.declared.question.Question.{Question}
use Rattle.gpu_answers.specs.declared.run.Stop.{Stop}
use Rattle.gpu_answers.specs.declared.run.Stop.TheVariants as Stopped
use Rattle.gpu_answers.proofs.Asked.{open_uses_all, questions}
use Rattle.gpu_desk.specs.Calls.{AllocationDenied, denial_after, plan_of}
use Rattle.gpu_desk.specs.Desk.{DeskState}
use Rattle.gpu_desk.specs.declared.denial.Denial.{Denial}
use Rattle.gpu_desk.specs.Wishes.{goes_by_pages, plan_for}
use Rattle.gpu_desk.specs.declared.wish.Wish.{Wish}
use Rattle.gpu_desk.specs.declared.denial.Denial.TheVariants.{Open, Refused}

-- Candidates.

-- keys that rise are of types that differ
before_other : (k : ℕ → ℕ) (x y : ℕ) → Before k x y → nat_eq x y ≡ false
before_other k x y before = elim (eqb_tells x y) [ inl same ↦ absurd (never same.1 before) | inr other ↦ other.0 ]
  where
    never : x ≡ y → Before k x y → ⊥
    never same (inl less) = let e = ap k same in omega (arith, less, e)
    never same (inr tie) = let less = tie.1 in omega (arith, less, same)

distinct_rising : (k : ℕ → ℕ) (xs : List ℕ) → IsRising k xs → IsDistinct nat_eq xs
unfolding IsDistinct
distinct_rising k [] rises = tt
distinct_rising k (x ∷ xs) rises =
    IsDistinct-cons nat_eq x xs
    (recursion_from_All (λ y. nat_eq x y ≡ false) xs (All-weaker (λ y. Before k x y) (λ y. nat_eq x y ≡ false) (before_other k x) xs
    (All-from_get_or (λ y. Before k x y) xs 0 (λ i inside. rises 0 (suc i) (omega arith) (omega arith)))))
    (distinct_rising k xs (λ a b less inside. rises (suc a) (suc b) (omega arith) (omega arith)))

-- a mask of 32 bits permits 32 types at most
few_candidates : (types : List MemoryType) (usage mask : ℕ) → mask < 2 ^ 32 → length (candidates types usage mask) ≤ 32
few_candidates types usage mask small =
    length-le_from_distinct_below (candidates types usage mask) 32 (distinct_rising (key_of (implied usage) types) (candidates types usage mask) ranked.rising) below
  where
    ranked : IsRankingWithin (implied usage) types mask (candidates types usage mask)
    ranked = candidates_IsRankingWithin types usage mask

    under : (t : ℕ) → bit_at mask t ≡ 1 → (b : Bool) → nat_lt t 32 ≡ b → t < 32
    under t set true less = grind (arith, nat_tests)
    under t set false not_less = absurd (let none = bit_at_above mask 32 t small (above t not_less) in omega (arith, none, set))
      where
        above : (t : ℕ) → nat_lt t 32 ≡ false → 32 ≤ t
        above t is = grind (arith, nat_tests)

    below : (t : ℕ) → list_any (nat_eq t) (candidates types usage mask) ≡ true → t < 32
    below t found = under t ((ranked.exactly t).0 (Contains-from_any eqb-true t (candidates types usage mask) found)).1 (nat_lt t 32) refl

-- What is asked for one candidate.

questions_append : (xs ys : List Event) → questions (xs ++ ys) ≡ questions xs + questions ys
questions_append [] ys = omega arith
questions_append (e ∷ xs) ys = let rest = questions_append xs ys in omega (arith, rest)

none_asks : (n : ℕ) (es : List Event) → es ≡ [] → questions es ≤ n
none_asks n es none = let asked = ap questions none in omega (arith, asked)

made_asks : (q : ChunkQuestion) (object : ℕ) → questions (made q object) ≤ 2
made_asks q object = elim q.mapped as (λ b. questions (Allocated q.size q.memory_type q.flags (Ok object) ∷ cond b (Mapped (whole_new_object q object) (Ok tt) ∷ []) []) ≤ 2) [
  | true ↦ omega arith
  | false ↦ omega arith
]

device_lacks_asks : (q : ChunkQuestion) (es : List Event) → LacksDeviceMemory q es → questions es ≤ 2
device_lacks_asks q es (inl one) = let asked = ap questions one in omega (arith, asked)
device_lacks_asks q es (inr two) = let asked = ap questions two.1.1 in omega (arith, asked)

host_lacks_asks : (q : ChunkQuestion) (es : List Event) → LacksHostMemory q es → questions es ≤ 2
host_lacks_asks q es (inl one) = let asked = ap questions one in omega (arith, asked)
host_lacks_asks q es (inr two) = let asked = ap questions two.1.1.2 in omega (arith, asked)

release_asks : (q : ChunkQuestion) (es : List Event) → IsReleased q es → questions es ≤ 2
release_asks q es back =
    let asked = ap questions back.1 ∙ questions_append (made q back.0) (Deallocated back.0 ∷ []) in let most = made_asks q back.0 in omega (arith, asked, most)

module _ {B S : Type 0} (c : Case B S) where
  passed_asks : (es : List Event) → case.IsPassed c es → questions es ≤ 2
  passed_asks es (inl unasked) = none_asks 2 es unasked.1
  passed_asks es (inr asked) = device_lacks_asks c.question es asked.1

  decided_asks : (es : List Event) (answer : Result B AllocationError) (new : S) → case.Decides c es answer new → questions es ≤ 2
  decided_asks es (Ok b) new (inl place) = none_asks 2 es place.asked
  decided_asks es (Ok b) new (inr object) = let asked = ap questions object.asked in let most = made_asks c.question (c.object b) in omega (arith, asked, most)
  decided_asks es (Err TooManyObjects) new d = none_asks 2 es d.1
  decided_asks es (Err OutOfHostMemory) new (same, inl unasked) = none_asks 2 es unasked.0
  decided_asks es (Err OutOfHostMemory) new (same, inr (asks, inl lacks)) = host_lacks_asks c.question es lacks
  decided_asks es (Err OutOfHostMemory) new (same, inr (asks, inr given)) = release_asks c.question es given.1
  decided_asks es (Err OutOfDeviceMemory) new d = absurd d
  decided_asks es (Err NoCompatibleMemoryTypes) new d = absurd d

-- What an allocation asks.

module _ (s : State) (p : Plan) where
  one_asks : (t : ℕ) (es : List Event) → IsCandidatePassed s (p.asked t).request (p.asked t).hint t es → questions es ≤ 2
  one_asks t es (inl small) = none_asks 2 es small.1
  one_asks t es (inr served) = passed_asks (candidate (strategy s (p.asked t).request (p.asked t).hint t) s (p.asked t).request t) es served.1

  all_ask : (ts : List ℕ) (es : List Event) (answer : Result Block AllocationError) (new : State) → TriesAll s p.asked ts es answer new
      → questions es ≤ 2 * length ts
  all_ask [] es answer new tried = none_asks 0 es tried.0
  all_ask (t ∷ ts) es answer new (inl (first, rest, both, passed, later)) =
      let asked = ap questions both ∙ questions_append first rest in
      let one = one_asks t first passed in
      let others = all_ask ts rest answer new later in
      omega (arith, asked, one, others)
  all_ask (t ∷ ts) es answer new (inr decides) =
      let one = decided_asks (candidate (strategy s (p.asked t).request (p.asked t).hint t) s (p.asked t).request t) es answer new decides.1 in omega (arith, one)

  allocation_asks : (es : List Event) (answer : Result Block AllocationError) (new : State) → AllocatesBy s p es answer new
      → questions es ≤ 2 * length p.candidates
  allocation_asks es answer new h = by p.too_large (is_required p.hint && (s.remaining == 0)) (nat_eq (length p.candidates) 0) h
    where
      by : (a b c : Bool) → MatchBool a (Refuses s OutOfDeviceMemory es answer new) (
          MatchBool b (Refuses s TooManyObjects es answer new) (
          MatchBool c (Refuses s NoCompatibleMemoryTypes es answer new) (TriesAll s p.asked p.candidates es answer new)))
          → questions es ≤ 2 * length p.candidates
      by true b c h = none_asks _ es h.0
      by false true c h = none_asks _ es h.0
      by false false true h = none_asks _ es h.0
      by false false false h = all_ask p.candidates es answer new h

-- Calls that end with an open question.

opened : (own : Question → Bool) (stop : Option Stop) (refusal : Denial) (question : Question) (is : Bool) → (Open question is ≡ refusal → ⊥)
    → Open question is ≡ denial_after own stop refusal → stop ≡ Some (Stopped.Open question)
opened own None refusal question is other same = absurd (other same)
opened own (Some (Stopped.Open asked)) refusal question is other same = cc
opened own (Some Stopped.Strayed) refusal question is other same = absurd (cc)

-- the candidates are those of the request, whichever way it goes
candidates_are : (s : State) (granularity : ℕ) (r : Request) (w : Wish) → (plan_for s granularity r w).candidates ≡ candidates_of s r
candidates_are s granularity r w = elim (goes_by_pages granularity w) as (λ b. (cond b (plan_in_pages s r w.dedicated granularity) (plan s r w.dedicated)).candidates ≡ candidates_of s r) [
  | true ↦ refl
  | false ↦ refl
]

pub allocation_asks_few : (s : DeskState) (r : Request) (w : Wish) (answers : List Answered) (question : Question) (own : Bool) → r.memory_types < 2 ^ 32
    → AllocationDenied s r w answers (Open question own) → length answers < 64
unfolding AllocationDenied
allocation_asks_few s r w answers question own small (inl fault) = absurd (let is = fault.1 in cc)
allocation_asks_few s r w answers question own small (inr (able, (es, after, run, (e, decided, why)))) =
    let used = open_uses_all (record (s.device) { run = begun answers }) es after run refl question (opened _ after.run.stop (Refused e) question own (λ is. cc) why) in
    let asked = allocation_asks s.allocator (plan_of s r w) es (Err e) s.allocator decided in
    let many = ap length (candidates_are s.allocator s.granularity r w) in
    let few = few_candidates s.allocator.properties.memory_types (usage_bits r.usage) r.memory_types small in
    omega (arith, used, asked, many, few)
