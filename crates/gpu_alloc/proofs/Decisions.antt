-- What follows from a decision: nothing changes where it refuses, remaining and held objects are as many as before, and what
-- holds wherever a candidate gives a block holds of a grant.
use Rattle.std.proofs.Common.{◌≡◌, inl, inr, ℕ, Bool, true, false, List, [], ◌∷◌, Option, None, Result, Ok, Err, refl, ◌+◌, ◌-◌, ◌<◌, ◌∙◌, ap, arith, Contains}
use Rattle.std.specs.Prelude.{MatchBool, OnErr, ◌&&◌, ◌==◌, nat_eq, length}
use Rattle.std.specs.FinMap as map
use Rattle.gpu_alloc_types.specs.Device.{Event}
use Rattle.gpu_alloc_types.specs.Flags.{usage_bits}
use Rattle.gpu_alloc_base.specs.Case as case
use Rattle.gpu_alloc_base.specs.Case.{Case}
use Rattle.gpu_alloc_base.specs.declared.error.AllocationError.{AllocationError}
use Rattle.gpu_alloc_base.specs.declared.error.AllocationError.TheVariants.{OutOfDeviceMemory, OutOfHostMemory, NoCompatibleMemoryTypes, TooManyObjects}
use Rattle.gpu_alloc.specs.Allocation.{AllocatesBy, CandidateDecides, Plan, Refuses, TriesAll, candidates_of, strategy}
use Rattle.gpu_alloc.specs.declared.allocator.Ask.{Ask}
use Rattle.gpu_alloc.specs.Request.{is_required}
use Rattle.gpu_alloc.specs.Candidates.{candidate}
use Rattle.gpu_alloc_block.specs.State.{State, Block, HeldObject, total}
use Rattle.gpu_alloc.specs.declared.allocator.Strategy.{Strategy}
use Rattle.gpu_alloc.specs.declared.allocator.Strategy.TheVariants.{OwnObject, InBuddyChunk, InFreeList, InFitChunk}
use Rattle.gpu_alloc.specs.declared.request.Dedicated.{Dedicated}
use Rattle.gpu_alloc.specs.declared.request.Request.{Request}
use Rattle.gpu_alloc_base.proofs.Lists.{all_contained, contains_head, contains_later}
use Rattle.gpu_alloc_base.proofs.Sums.{len_more}
use Rattle.gpu_alloc_usage.proofs.Ranking.Candidates.{candidates-within}

-- One candidate.

before_is : (w : Strategy) (s : State) (r : Request) (t : ℕ) → (candidate w s r t).before ≡ s
before_is OwnObject s r t = refl
before_is InBuddyChunk s r t = refl
before_is InFreeList s r t = refl
before_is InFitChunk s r t = refl

case_refused : (c : Case Block State) (es : List Event) (e : AllocationError) (new : State) → case.Decides c es (Err e) new → new ≡ c.before
case_refused c es TooManyObjects new refused = refused.0
case_refused c es OutOfHostMemory new refused = refused.0
case_refused c es OutOfDeviceMemory new refused = absurd refused
case_refused c es NoCompatibleMemoryTypes new refused = absurd refused

pub decides_refused : (s : State) (r : Request) (hint : Option Dedicated) (t : ℕ) (es : List Event) (e : AllocationError) (new : State) → CandidateDecides s r hint t es (Err e) new → new ≡ s
decides_refused s r hint t es e new decides =
    let w = strategy s r hint t in
    case_refused (candidate w s r t) es e new decides.1 ∙ before_is w s r t

-- one more object is held, and one less remains
one_more : (s : State) (object : ℕ) (h : HeldObject) (remaining : ℕ) → 0 < s.remaining → map.get s.held object ≡ None → remaining ≡ s.remaining - 1 → remaining + map.len (map.insert s.held object h) ≡ total s
one_more s object h remaining some free is = omega (arith, is, some, len_more s.held object h free)

grant_total : (w : Strategy) (s : State) (r : Request) (t : ℕ) (es : List Event) (b : Block) (new : State) → case.Decides (candidate w s r t) es (Ok b) new → total new ≡ total s
grant_total OwnObject s r t es b new (inl gives) = absurd gives.place
grant_total OwnObject s r t es b new (inr gives) = ap total gives.state ∙ one_more s b.object _ _ gives.asks.has.remains.objects gives.place.was_free refl
grant_total InBuddyChunk s r t es b new (inl gives) = ap total gives.state
grant_total InBuddyChunk s r t es b new (inr gives) = ap total gives.state ∙ one_more s b.object _ _ gives.asks.has.remains.objects gives.place.was_free refl
grant_total InFreeList s r t es b new (inl gives) = ap total gives.state
grant_total InFreeList s r t es b new (inr gives) = ap total gives.state ∙ one_more s b.object _ _ gives.asks.has.remains.objects gives.place.was_free refl
grant_total InFitChunk s r t es b new (inl gives) = ap total gives.state
grant_total InFitChunk s r t es b new (inr gives) = ap total gives.state ∙ one_more s b.object _ _ gives.asks.has.remains.objects gives.place.was_free refl

decides_total : (s : State) (r : Request) (hint : Option Dedicated) (t : ℕ) (es : List Event) (answer : Result Block AllocationError) (new : State) → CandidateDecides s r hint t es answer new → total new ≡ total s
decides_total s r hint t es (Ok b) new decides = grant_total (strategy s r hint t) s r t es b new decides.1
decides_total s r hint t es (Err e) new decides = ap total (decides_refused s r hint t es e new decides)

-- All candidates.

module _ (s : State) (asked : ℕ → Ask) where
  all_refused : (ts : List ℕ) (es : List Event) (e : AllocationError) (new : State) → TriesAll s asked ts es (Err e) new → new ≡ s
  all_refused [] es e new tried = tried.2
  all_refused (t ∷ ts) es e new (inl passed) = all_refused ts passed.1 e new passed.4
  all_refused (t ∷ ts) es e new (inr decides) = decides_refused s (asked t).request (asked t).hint t es e new decides

  all_total : (ts : List ℕ) (es : List Event) (answer : Result Block AllocationError) (new : State) → TriesAll s asked ts es answer new → total new ≡ total s
  all_total [] es answer new tried = ap total tried.2
  all_total (t ∷ ts) es answer new (inl passed) = all_total ts passed.1 answer new passed.4
  all_total (t ∷ ts) es answer new (inr decides) = decides_total s (asked t).request (asked t).hint t es answer new decides

-- The whole allocation.

-- what holds of each refusal by a test, and where all tests are passed
by_tests : {X : Type 0} (a b c : Bool) {A B C D : Type 0} → (A → X) → (B → X) → (C → X) → (D → X) → MatchBool a A (MatchBool b B (MatchBool c C D)) → X
by_tests true b c first second third else h = first h
by_tests false true c first second third else h = second h
by_tests false false true first second third else h = third h
by_tests false false false first second third else h = else h

module _ (s : State) (p : Plan) where
  module _ (es : List Event) (answer : Result Block AllocationError) (new : State) where
    abbrev Refused : AllocationError → Type 0
    Refused e = Refuses s e es answer new

    of_allocation : {X : Type 0} → ((e : AllocationError) → Refused e → X) → (TriesAll s p.asked p.candidates es answer new → X) → AllocatesBy s p es answer new → X
    of_allocation refused tried =
        by_tests p.too_large (is_required p.hint && (s.remaining == 0)) (nat_eq (length p.candidates) 0)
        (refused OutOfDeviceMemory) (refused TooManyObjects) (refused NoCompatibleMemoryTypes) tried

    pub allocates_total : AllocatesBy s p es answer new → total new ≡ total s
    allocates_total = of_allocation (λ e refused. ap total refused.2) (all_total s p.asked p.candidates es answer new)

  pub allocates_kept : (es : List Event) (answer : Result Block AllocationError) (new : State) → AllocatesBy s p es answer new → OnErr answer (new ≡ s)
  allocates_kept es (Ok b) new h = tt
  allocates_kept es (Err e) new h = of_allocation es (Err e) new (λ cause refused. refused.2) (all_refused s p.asked p.candidates es e new) h

  -- what holds wherever a candidate gives a block holds of a grant
  module _ {X : Type 0} (b : Block) (new : State) (gives : (t : ℕ) (es : List Event) → Contains p.candidates t → CandidateDecides s (p.asked t).request (p.asked t).hint t es (Ok b) new → X) where
    one_gives : (us : List ℕ) (es : List Event) → ((t : ℕ) → Contains us t → Contains p.candidates t) → TriesAll s p.asked us es (Ok b) new → X
    one_gives [] es are tried = absurd (cc)
    one_gives (t ∷ us) es are (inl passed) = one_gives us passed.1 (λ u has. are u (contains_later t u us has)) passed.4
    one_gives (t ∷ us) es are (inr decides) = gives t es (are t (contains_head t us)) decides

    pub of_grant : (es : List Event) → AllocatesBy s p es (Ok b) new → X
    of_grant es h = of_allocation es (Ok b) new (λ e refused. absurd (let never = refused.1 in cc)) (one_gives p.candidates es (λ t has. has)) h

-- each candidate is a known memory type
pub candidate_known : (s : State) (r : Request) (t : ℕ) → Contains (candidates_of s r) t → t < length s.properties.memory_types
candidate_known s r t has =
    all_contained (λ u. u < length s.properties.memory_types) (candidates_of s r) t (candidates-within s.properties.memory_types (usage_bits r.usage) r.memory_types) has
