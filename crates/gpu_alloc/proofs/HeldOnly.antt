-- An allocation that asks the device for nothing: where there is a place, the first that has one, and what it grants.
use Rattle.std.proofs.Common.{◌≡◌, ◌≢◌, ◌↔◌, inl, inr, ℕ, suc, ◌<◌, ◌≤◌, ◌∙◌, ◌^◌, ◌==◌, ◌&&◌, Bool, true, false, not, cond, List, [], ◌∷◌, filter, length, drop, drop-cons, get_or, nat_eq, Contains, Option, Some, None, Result, Ok, Err, IfOk, IsTrue, refl, sym, ap, subst, arith}
use Rattle.std.proofs.Math.ListN.{drop_of_length-le}
use Rattle.std.proofs.lemmas.Bool.{MatchBool-at_false, cases_eq}
use Rattle.std.proofs.lemmas.Bool.Decides.{nat_tests}
use Rattle.std.proofs.lemmas.List.Elements.{Contains-append_cases}
use Rattle.std.proofs.lemmas.Nat.Bits.{bit_at-pow_other, bit_at-pow_same}
use Rattle.std.specs.Option.{is_some}
use Rattle.std.specs.Prelude.{MatchBool, IsNone, OnErr}
use Rattle.gpu_alloc_types.specs.Device.{Asked, Chain, Event}
use Rattle.gpu_alloc_types.specs.Flags.{usage_bits}
use Rattle.gpu_alloc_base.specs.Accounts.{Account, account}
use Rattle.gpu_alloc_base.specs.Case as case
use Rattle.gpu_alloc_base.specs.Case.{Case, RefusesFirst}
use Rattle.gpu_alloc_base.specs.declared.error.AllocationError.{AllocationError}
use Rattle.gpu_alloc_base.specs.declared.error.AllocationError.TheVariants.{OutOfDeviceMemory, OutOfHostMemory, NoCompatibleMemoryTypes, TooManyObjects}
use Rattle.gpu_alloc_base.specs.declared.heap.Heap.{Heap}
use Rattle.gpu_alloc_base.proofs.Lists.{contains_head, contains_later}
use Rattle.gpu_alloc_block.specs.State.{Block, State}
use Rattle.gpu_alloc_usage.specs.Ranking.{implied, is_allowed, named, ranking}
use Rattle.gpu_alloc_usage.proofs.Ranking.Candidates.{candidates_IsRankingWithin, implied-named}
use Rattle.gpu_alloc_usage.proofs.Ranking.Rising.{none-at, one-at}
use Rattle.gpu_alloc.specs.Allocation.{AllocatesBy, CandidateDecides, IsCandidatePassed, Plan, TriesAll, TriesAsked, ask, asked_of, candidates_of, is_too_large, plan_with, serves_alone, strategy}
use Rattle.gpu_alloc.specs.Candidates.{candidate}
use Rattle.gpu_alloc.specs.HeldOnly.{AllocatesHeld, HasPlaceBy, HasPlaceFor, IsFirstWithPlace, IsRefused, ServesHeld}
use Rattle.gpu_alloc.specs.Request.{is_required}
use Rattle.gpu_alloc.specs.declared.allocator.Ask.{Ask}
use Rattle.gpu_alloc.specs.declared.allocator.Strategy.{Strategy}
use Rattle.gpu_alloc.specs.declared.allocator.Strategy.TheVariants.{OwnObject, InBuddyChunk, InFreeList, InFitChunk}
use Rattle.gpu_alloc.specs.declared.request.Dedicated.{Dedicated}
use Rattle.gpu_alloc.specs.declared.request.Dedicated.TheVariants.{Required, Preferred}
use Rattle.gpu_alloc.specs.declared.request.Request.{Request}
use Rattle.gpu_alloc_shared.specs.Rule.{Rule}
use Rattle.gpu_alloc_shared.specs.Shared.{ask_case}
use Rattle.gpu_alloc.proofs.Decisions.{decides_refused}
use Rattle.gpu_alloc.proofs.Shared.Stores.{AreAsked, IsRequest, Named, Serves}
use Rattle.gpu_alloc.proofs.Strategies.{shared_below}

-- A place, recognised by whether there is a refusal where nothing remains.

told_by_refusal : {B S : Type 0} (c : Case B S) {X : Type 0} → c.remaining ≡ 0 → (c.Fits → c.HasPlace → X) → (X → c.Fits × c.HasPlace) → (first : Option AllocationError) → RefusesFirst c first → (told : Bool) → is_some first ≡ not told → IsTrue told ↔ X
told_by_refusal c spent to from None unsure true is = elim (unsure.ways) [
  | inl place ↦ (λ _. to unsure.fits place, λ _. refl)
  | inr may ↦ let some = may.0.objects in let never : ⊥ = omega (arith, some, spent) in absurd never
]
told_by_refusal c spent to from None unsure false is = absurd (cc)
told_by_refusal c spent to from (Some e) refuses true is = absurd (cc)
told_by_refusal c spent to from (Some OutOfDeviceMemory) (inl unfit) false is = (λ yes. absurd (cc), λ x. absurd (unfit (from x).0))
told_by_refusal c spent to from (Some OutOfDeviceMemory) (inr (has, over)) false is = (λ yes. absurd (cc), λ x. absurd (has.no_place (from x).1))
told_by_refusal c spent to from (Some TooManyObjects) shut false is = (λ yes. absurd (cc), λ x. absurd (shut.no_place (from x).1))
told_by_refusal c spent to from (Some OutOfHostMemory) never false is = absurd never
told_by_refusal c spent to from (Some NoCompatibleMemoryTypes) never false is = absurd never

-- of a store of any rule
pub place_told : {T A B : Type 0} {rule : Rule T A B} {n : Named rule} (asked : AreAsked n) (w : Strategy) (s : State) (index : ℕ) (x : T) (heap : Heap) (r : Request) → Serves n s index x → {c : Case B (Account T)} → IsRequest n s index x heap 0 c (candidate w s r index)
    → (first : Option AllocationError) → RefusesFirst c first → (told : Bool) → is_some first ≡ not told → IsTrue told ↔ HasPlaceBy w s r index
place_told {T} {B = B} {rule} asked w s index x heap r serves q first refuses =
    told_by_refusal (ask_case rule (account x heap 0) q.ask q.flags) refl
    (λ fits place. record { fits = subst (λ (d : Case Block State). d.Fits) (sym q.by_name) fits; place = subst (λ (d : Case Block State). d.HasPlace) (sym q.by_name) (asked.place s index x q.ask serves place) })
    (λ has. (subst (λ (d : Case Block State). d.Fits) q.by_name has.fits, asked.place_was s index x q.ask serves q.some (subst (λ (d : Case Block State). d.HasPlace) q.by_name has.place)))
    first (subst (λ (d : Case B (Account T)). RefusesFirst d first) q.to_store refuses)

-- The walk over the ranked types. The candidates are those of the types ts that are allowed.

module _ (s : State) (asked : ℕ → Ask) (allowed : ℕ → Bool) (ts : List ℕ) where
  -- the first with a place of the candidates from rank i on is the first of all
  abbrev pub LooksOn : ℕ → Type 0
  LooksOn i = (found : Option ℕ) → IsFirstWithPlace s asked (filter allowed (drop i ts)) found → IsFirstWithPlace s asked (filter allowed ts) found

  next : (i : ℕ) → i < length ts → allowed (get_or ts i 0) ≡ true → filter allowed (drop i ts) ≡ get_or ts i 0 ∷ filter allowed (drop (suc i) ts)
  next i lt is = rw (drop-cons ts i 0 lt, is) refl

  pub looks_past : (i : ℕ) → i < length ts → allowed (get_or ts i 0) ≡ false → LooksOn i → LooksOn (suc i)
  looks_past i lt is looks found h = looks found (rw (drop-cons ts i 0 lt, is) h)

  pub looks_next : (i : ℕ) → i < length ts → allowed (get_or ts i 0) ≡ true → (HasPlaceFor s asked (get_or ts i 0) → ⊥) → LooksOn i → LooksOn (suc i)
  looks_next i lt is none looks found h = looks found (rw (next i lt is) (inr (none, h)))

  pub looks_found : (i : ℕ) → i < length ts → allowed (get_or ts i 0) ≡ true → HasPlaceFor s asked (get_or ts i 0) → LooksOn i → IsFirstWithPlace s asked (filter allowed ts) (Some (get_or ts i 0))
  looks_found i lt is place looks = looks (Some (get_or ts i 0)) (rw (next i lt is) (inl (place, refl)))

  pub looks_end : (i : ℕ) → length ts ≤ i → LooksOn i → IsFirstWithPlace s asked (filter allowed ts) None
  looks_end i le looks = looks None (rw (drop_of_length-le ts le) refl)

-- the ranked types that are allowed, ranked for what the request's usage means, are its candidates
pub looks_as_meant : (s : State) (r : Request) (asked : ℕ → Ask) (meant : ℕ) (found : Option ℕ)
    → meant ≡ implied (usage_bits r.usage) → IsFirstWithPlace s asked (filter (is_allowed r.memory_types) (ranking (named meant) s.properties.memory_types)) found
    → IsFirstWithPlace s asked (candidates_of s r) found
looks_as_meant s r asked meant found is h =
    let same : named meant ≡ implied (usage_bits r.usage) = ap named is ∙ implied-named (usage_bits r.usage) in
    subst (λ u. IsFirstWithPlace s asked (filter (is_allowed r.memory_types) (ranking u s.properties.memory_types)) found) same h

-- What the first with a place answers.

place_shared : (w : Strategy) (s : State) (r : Request) (t : ℕ) → HasPlaceBy w s r t → w ≢ OwnObject
place_shared OwnObject s r t has own = absurd has.place
place_shared InBuddyChunk s r t has own = absurd (cc)
place_shared InFreeList s r t has own = absurd (cc)
place_shared InFitChunk s r t has own = absurd (cc)

module _ (c : Case Block State) (fits : c.Fits) (place : c.HasPlace) where
  not_asked : case.Asks c → ⊥
  not_asked asks = asks.has.no_place place

  not_passed : (es : List Event) → case.IsPassed c es → ⊥
  not_passed es (inl (inl unfit, none)) = unfit fits
  not_passed es (inl (inr (has, over), none)) = has.no_place place
  not_passed es (inr (asks, lacks)) = not_asked asks

  given_unasked : (es : List Event) (b : Block) (new : State) → case.Decides c es (Ok b) new → es ≡ []
  given_unasked es b new (inl gives) = gives.asked
  given_unasked es b new (inr gives) = absurd (not_asked gives.asks)

  refused_unasked : (es : List Event) (e : AllocationError) (new : State) → case.Decides c es (Err e) new → (es ≡ []) × (e ≡ OutOfHostMemory)
  refused_unasked es TooManyObjects new (same, none, shut) = absurd (shut.no_place place)
  refused_unasked es OutOfHostMemory new (same, inl (none, unsure)) = (none, refl)
  refused_unasked es OutOfHostMemory new (same, inr (asks, refuses)) = absurd (not_asked asks)
  refused_unasked es OutOfDeviceMemory new never = absurd never
  refused_unasked es NoCompatibleMemoryTypes new never = absurd never

module _ (s : State) (asked : ℕ → Ask) (t : ℕ) (has : HasPlaceFor s asked t) where
  abbrev r : Request
  r = (asked t).request

  abbrev w : Strategy
  w = strategy s r (asked t).hint t

  pub serves_held : (es : List Event) (answer : Result (Option Block) AllocationError) (new : State) → TriesAsked s asked t es answer new → (es ≡ []) × ServesHeld s asked (Some t) answer new
  serves_held es (Ok None) new (inl (less, none), same) =
      let most = shared_below s r (asked t).hint t w refl (place_shared w s r t has) in
      let never : ⊥ = omega (arith, less, most) in absurd never
  serves_held es (Ok None) new (inr (most, passed), same) = absurd (not_passed (candidate w s r t) has.fits has.place es passed)
  serves_held es (Ok (Some b)) new decides =
      let none = given_unasked (candidate w s r t) has.fits has.place es b new decides.1 in
      (none, subst (λ fs. CandidateDecides s r (asked t).hint t fs (Ok b) new) none decides)
  serves_held es (Err e) new decides =
      let none = refused_unasked (candidate w s r t) has.fits has.place es e new decides.1 in
      (none.0, (none.1, decides_refused s r (asked t).hint t es e new decides))

-- the first with a place is a candidate, and has one
pub first_is : (s : State) (asked : ℕ → Ask) (ts : List ℕ) (t : ℕ) → IsFirstWithPlace s asked ts (Some t) → Contains ts t × HasPlaceFor s asked t
first_is s asked [] t none = absurd (cc)
first_is s asked (u ∷ ts) t (inl (has, is)) = let same : t ≡ u = cc in (subst (Contains (u ∷ ts)) (sym same) (contains_head u ts), subst (HasPlaceFor s asked) (sym same) has)
first_is s asked (u ∷ ts) t (inr (none, later)) = let behind = first_is s asked ts t later in (contains_later u t ts behind.0, behind.1)

-- where none is, none of them has a place
pub none_has : (s : State) (asked : ℕ → Ask) (ts : List ℕ) → IsFirstWithPlace s asked ts None → (t : ℕ) → Contains ts t → HasPlaceFor s asked t → ⊥
none_has s asked [] none t there has = absurd (none-at t there)
none_has s asked (u ∷ ts) (inl (place, is)) t there has = absurd (cc)
none_has s asked (u ∷ ts) (inr (none, later)) t there has = elim (Contains-append_cases (u ∷ []) ts t there) [
  | inl now ↦ none (subst (HasPlaceFor s asked) (sym (one-at u t now.0 now.1 now.2)) has)
  | inr behind ↦ none_has s asked ts later t behind has
]

-- A request that permits one memory type alone.

abbrev pub only : Request → ℕ → Request
only r t = record r { memory_types = 2 ^ t }

abbrev some_of : Result Block AllocationError → Result (Option Block) AllocationError
some_of (Ok b) = Ok (Some b)
some_of (Err e) = Err e

not_required : (s : State) (r : Request) (hint : Option Dedicated) (paged : Option Request) (t : ℕ) → HasPlaceFor s (asked_of s r hint paged) t → is_required hint ≡ false
not_required s r None paged t has = refl
not_required s r (Some Preferred) paged t has = refl
not_required s r (Some Required) None t has = absurd has.place
not_required s r (Some Required) (Some pages) t has = absurd has.place

some_there : (ts : List ℕ) (t : ℕ) → Contains ts t → nat_eq (length ts) 0 ≡ false
some_there [] t there = absurd (none-at t there)
some_there (u ∷ ts) t there = grind (arith, nat_tests)

-- by the same strategy
strategy_same : (s : State) (r : Request) (hint : Option Dedicated) (t : ℕ) → strategy s (only r t) hint t ≡ strategy s r hint t
strategy_same s r None t = refl
strategy_same s r (Some Preferred) t = refl
strategy_same s r (Some Required) t = refl

module _ (s : State) (r : Request) (t : ℕ) (es : List Event) where
  passed_by : (w : Strategy) → case.IsPassed (candidate w s (only r t) t) es → case.IsPassed (candidate w s r t) es
  passed_by OwnObject passed = passed
  passed_by InBuddyChunk passed = passed
  passed_by InFreeList passed = passed
  passed_by InFitChunk passed = passed

  decides_by : (answer : Result Block AllocationError) (new : State) (w : Strategy) → case.Decides (candidate w s (only r t) t) es answer new → case.Decides (candidate w s r t) es answer new
  decides_by answer new OwnObject decides = decides
  decides_by answer new InBuddyChunk decides = decides
  decides_by answer new InFreeList decides = decides
  decides_by answer new InFitChunk decides = decides

  module _ (hint : Option Dedicated) where
    passed_plain : IsCandidatePassed s (only r t) hint t es → IsCandidatePassed s r hint t es
    passed_plain (inl smaller) = inl smaller
    passed_plain (inr (most, passed)) = inr (most, subst (λ w. case.IsPassed (candidate w s r t) es) (strategy_same s r hint t) (passed_by (strategy s (only r t) hint t) passed))

    decides_plain : (answer : Result Block AllocationError) (new : State) → CandidateDecides s (only r t) hint t es answer new → CandidateDecides s r hint t es answer new
    decides_plain answer new decides = (decides.0, subst (λ w. case.Decides (candidate w s r t) es answer new) (strategy_same s r hint t) (decides_by answer new (strategy s (only r t) hint t) decides.1))

    -- for whole pages, or for one of its own
    passed_either : (alone : Bool) (pages : Request) → IsCandidatePassed s (cond alone (ask (only r t) (Some Required) t) (ask pages hint t)).request (cond alone (ask (only r t) (Some Required) t) (ask pages hint t)).hint t es
        → IsCandidatePassed s (cond alone (ask r (Some Required) t) (ask pages hint t)).request (cond alone (ask r (Some Required) t) (ask pages hint t)).hint t es
    passed_either true pages passed = passed
    passed_either false pages passed = passed

    decides_either : (answer : Result Block AllocationError) (new : State) (alone : Bool) (pages : Request)
        → CandidateDecides s (cond alone (ask (only r t) (Some Required) t) (ask pages hint t)).request (cond alone (ask (only r t) (Some Required) t) (ask pages hint t)).hint t es answer new
        → CandidateDecides s (cond alone (ask r (Some Required) t) (ask pages hint t)).request (cond alone (ask r (Some Required) t) (ask pages hint t)).hint t es answer new
    decides_either answer new true pages decides = decides
    decides_either answer new false pages decides = decides

    -- so it is asked for the same of that type
    passed_same : (paged : Option Request) → IsCandidatePassed s (asked_of s (only r t) hint paged t).request (asked_of s (only r t) hint paged t).hint t es
        → IsCandidatePassed s (asked_of s r hint paged t).request (asked_of s r hint paged t).hint t es
    passed_same None passed = passed_plain passed
    passed_same (Some pages) passed = passed_either (serves_alone s pages hint t) pages passed

    decides_same : (answer : Result Block AllocationError) (new : State) (paged : Option Request) → CandidateDecides s (asked_of s (only r t) hint paged t).request (asked_of s (only r t) hint paged t).hint t es answer new
        → CandidateDecides s (asked_of s r hint paged t).request (asked_of s r hint paged t).hint t es answer new
    decides_same answer new None decides = decides_plain answer new decides
    decides_same answer new (Some pages) decides = decides_either answer new (serves_alone s pages hint t) pages decides

module _ (s : State) (r : Request) (hint : Option Dedicated) (paged : Option Request) (t : ℕ) (chosen : Contains (candidates_of s r) t) (has : HasPlaceFor s (asked_of s r hint paged) t) where
  abbrev asked : ℕ → Ask
  asked = asked_of s r hint paged

  -- it is the one candidate then
  alone_there : Contains (candidates_of s (only r t)) t
  alone_there =
      let within = candidates_IsRankingWithin s.properties.memory_types (usage_bits r.usage) in
      ((within (2 ^ t)).exactly t).1 ((((within r.memory_types).exactly t).0 chosen).0, bit_at-pow_same t)

  alone_within : (u : ℕ) → Contains (candidates_of s (only r t)) u → u ≡ t
  alone_within u there = elim (cases_eq u t) [
    | inl same ↦ same
    | inr other ↦
        let one = (((candidates_IsRankingWithin s.properties.memory_types (usage_bits r.usage) (2 ^ t)).exactly u).0 there).1 in
        let none = bit_at-pow_other t u other in
        let never : ⊥ = omega (arith, one, none) in absurd never
  ]

  given_there : (es : List Event) (answer : Result Block AllocationError) (new : State) → CandidateDecides s (asked t).request (asked t).hint t es answer new → (es ≡ []) × ServesHeld s asked (Some t) (some_of answer) new
  given_there es (Ok b) new decides = serves_held s asked t has es (Ok (Some b)) new decides
  given_there es (Err e) new decides = serves_held s asked t has es (Err e) new decides

  one_serves : (ts : List ℕ) → ((u : ℕ) → Contains ts u → u ≡ t) → Contains ts t → (es : List Event) (answer : Result Block AllocationError) (new : State) → TriesAll s (asked_of s (only r t) hint paged) ts es answer new → (es ≡ []) × ServesHeld s asked (Some t) (some_of answer) new
  one_serves [] within there es answer new tried = absurd (none-at t there)
  one_serves (u ∷ us) within there es answer new (inl passed) =
      let same : u ≡ t = within u (contains_head u us) in
      let here = subst (λ n. IsCandidatePassed s (asked_of s (only r t) hint paged n).request (asked_of s (only r t) hint paged n).hint n passed.0) same passed.3 in
      absurd (serves_held s asked t has passed.0 (Ok None) s (passed_same s r t passed.0 hint paged here, refl)).1
  one_serves (u ∷ us) within there es answer new (inr decides) =
      let same : u ≡ t = within u (contains_head u us) in
      let here = subst (λ n. CandidateDecides s (asked_of s (only r t) hint paged n).request (asked_of s (only r t) hint paged n).hint n es answer new) same decides in
      given_there es answer new (decides_same s r t es hint answer new paged here)

  -- so what it is decided to be is what that candidate gives with no question
  pub only_serves : (es : List Event) (answer : Result Block AllocationError) (new : State) → is_too_large s r ≡ false → AllocatesBy s (plan_with s (only r t) hint paged) es answer new → (es ≡ []) × ServesHeld s asked (Some t) (some_of answer) new
  only_serves es answer new within h =
      let free : (is_required hint && (s.remaining == 0)) ≡ false = rw (not_required s r hint paged t has) refl in
      let some = some_there (candidates_of s (only r t)) t alone_there in
      one_serves (candidates_of s (only r t)) alone_within alone_there es answer new (MatchBool-at_false _ _ some (MatchBool-at_false _ _ free (MatchBool-at_false _ _ within h)))

-- the call for that type alone, where it is the first with a place, decides the whole one, and asked the device for nothing
pub taken : (s : State) (request : Request) (hint : Option Dedicated) (paged : Option Request) (t : ℕ) → is_too_large s request ≡ false → nat_eq (length (candidates_of s request)) 0 ≡ false → IsFirstWithPlace s (asked_of s request hint paged) (candidates_of s request) (Some t)
    → {mask : ℕ} → mask ≡ 2 ^ t → {D : Type 0} {step : D → Event → D → Type 0} {old after : D} (answer : Result Block AllocationError) (new : State) → Asked step old after (λ es. AllocatesBy s (plan_with s (record request { memory_types = mask }) hint paged) es answer new)
    → AllocatesHeld s (plan_with s request hint paged) (some_of answer) new × (after ≡ old)
taken s request hint paged t within some first {mask} only_t {step = step} {old} {after} answer new told =
    let is = first_is s (asked_of s request hint paged) (candidates_of s request) t first in
    let serves = only_serves s request hint paged t is.0 is.1 told.0 answer new within (subst (λ m. AllocatesBy s (plan_with s (record request { memory_types = m }) hint paged) told.0 answer new) only_t told.2) in
    (rw (within, some) (Some t, first, serves.1), subst (λ es. Chain step old es after) serves.0 told.1)

-- The whole call.

module _ (s : State) (p : Plan) where
  -- what is known of its answer: which candidate gave the block, or that nothing changed
  abbrev pub IsHeldAnswer : Result (Option Block) AllocationError → State → Type 0
  IsHeldAnswer (Ok None) new = new ≡ s
  IsHeldAnswer (Ok (Some b)) new = (t : ℕ) × Contains p.candidates t × HasPlaceFor s p.asked t × CandidateDecides s (p.asked t).request (p.asked t).hint t [] (Ok b) new
  IsHeldAnswer (Err e) new = new ≡ s

  as_refused : (e : AllocationError) (answer : Result (Option Block) AllocationError) (new : State) → IsRefused s e answer new → IsHeldAnswer answer new
  as_refused e (Ok v) new refused = absurd (let is = refused.0 in cc)
  as_refused e (Err x) new refused = refused.1

  as_served : (found : Option ℕ) (answer : Result (Option Block) AllocationError) (new : State) → IsFirstWithPlace s p.asked p.candidates found → ServesHeld s p.asked found answer new → IsHeldAnswer answer new
  as_served None (Ok None) new first serves = serves.1
  as_served None (Ok (Some b)) new first serves = absurd (let is = serves.0 in cc)
  as_served None (Err e) new first serves = serves.1
  as_served (Some t) (Ok None) new first serves = absurd serves
  as_served (Some t) (Ok (Some b)) new first serves = let is = first_is s p.asked p.candidates t first in (t, is.0, is.1, serves)
  as_served (Some t) (Err e) new first serves = serves.1

  of_checks : {X : Type 0} (a b : Bool) {A B C : Type 0} → (A → X) → (B → X) → (C → X) → MatchBool a A (MatchBool b B C) → X
  of_checks true b first second third h = first h
  of_checks false true first second third h = second h
  of_checks false false first second third h = third h

  module _ (answer : Result (Option Block) AllocationError) (new : State) where
    of_held : {X : Type 0} → ((e : AllocationError) → IsRefused s e answer new → X) → ((found : Option ℕ) → IsFirstWithPlace s p.asked p.candidates found → ServesHeld s p.asked found answer new → X) → AllocatesHeld s p answer new → X
    of_held refused served = of_checks p.too_large (nat_eq (length p.candidates) 0) (refused OutOfDeviceMemory) (refused NoCompatibleMemoryTypes) (λ h. served h.0 h.1 h.2)

    pub held_answer : AllocatesHeld s p answer new → IsHeldAnswer answer new
    held_answer = of_held (λ e refused. as_refused e answer new refused) (λ found first serves. as_served found answer new first serves)

  pub refused_stays : (answer : Result (Option Block) AllocationError) (new : State) → IsHeldAnswer answer new → OnErr answer (new ≡ s)
  refused_stays (Ok v) new is = tt
  refused_stays (Err e) new same = same

  -- where it would ask, no candidate has a place
  pub no_place_then : (new : State) → AllocatesHeld s p (Ok None) new → (t : ℕ) → Contains p.candidates t → HasPlaceFor s p.asked t → ⊥
  no_place_then new h t there = of_held (Ok None) new (λ e refused. absurd (let is = refused.0 in cc)) (λ found first serves. by_found found first serves) h
    where
      by_found : (found : Option ℕ) → IsFirstWithPlace s p.asked p.candidates found → ServesHeld s p.asked found (Ok None) new → HasPlaceFor s p.asked t → ⊥
      by_found None first serves = none_has s p.asked p.candidates first t there
      by_found (Some u) first serves = absurd serves

  -- where no candidate is asked for a place, there is no block
  pub none_served : (answer : Result (Option Block) AllocationError) (new : State) → ((t : ℕ) → HasPlaceFor s p.asked t → ⊥) → IsHeldAnswer answer new → IfOk answer IsNone
  none_served (Ok None) new none is = refl
  none_served (Ok (Some b)) new none is = absurd (none is.0 is.2)
  none_served (Err e) new none is = tt
