use Rattle.std.proofs.Common.{◌≡◌, ◌≢◌, ◌⊎◌, ◌<◌, ◌≤◌, ℕ, List, [], Option, Some, None, Result, Ok, Err, refl, ◌∙◌, subst, inl, inr}
use Rattle.std.proofs.lemmas.Bool.{cases_lt}
use Rattle.gpu_alloc_types.specs.Device.{Asked, Event}
use Rattle.gpu_alloc_types.specs.Properties.{heap_size}
use Rattle.gpu_alloc_base.specs.Case as case
use Rattle.gpu_alloc.specs.Allocation.{strategy, TriesBy, TriesCandidate}
use Rattle.gpu_alloc.specs.Candidates.{candidate, own_candidate}
use Rattle.gpu_alloc_block.specs.State.{State, Block}
use Rattle.gpu_alloc.specs.declared.allocator.Strategy.{Strategy}
use Rattle.gpu_alloc.specs.declared.allocator.Strategy.TheVariants.{OwnObject, InBuddyChunk, InFreeList, InFitChunk}
use Rattle.gpu_alloc_base.specs.declared.error.AllocationError.{AllocationError}
use Rattle.gpu_alloc.specs.declared.request.Dedicated.{Dedicated}
use Rattle.gpu_alloc.specs.declared.request.Request.{Request}
use Rattle.gpu_alloc.proofs.Grants.{has_own}
use Rattle.gpu_alloc.proofs.Strategies.{buddies_chosen, fits_chosen, fits_its_list, shared_below}
use Rattle.gpu_alloc.proofs.allocator.GpuAllocator.try_type.Goals as goal

before_is : (w : Strategy) (s : State) (r : Request) (t : ℕ) → (candidate w s r t).before ≡ s
before_is OwnObject s r t = refl
before_is InBuddyChunk s r t = refl
before_is InFreeList s r t = refl
before_is InFitChunk s r t = refl

-- where the heap is no smaller than the request, trying its way of being served is trying the candidate
tries_by : (w : Strategy) (s : State) (r : Request) (hint : Option Dedicated) (t : ℕ) (es : List Event) (answer : Result (Option Block) AllocationError) (new : State)
    → r.size ≤ heap_size s.properties t → w ≡ strategy s r hint t → TriesBy w s r t es answer new → TriesCandidate s r hint t es answer new
tries_by w s r hint t es (Ok None) new most is tried = (inr (most, subst (λ v. case.IsPassed (candidate v s r t) es) is tried.1), tried.0 ∙ before_is w s r t)
tries_by w s r hint t es (Ok (Some b)) new most is tried = (most, subst (λ v. case.Decides (candidate v s r t) es (Ok b) new) is tried)
tries_by w s r hint t es (Err e) new most is tried = (most, subst (λ v. case.Decides (candidate v s r t) es (Err e) new) is tried)

-- a heap that is smaller than the request is passed, and one with too little left
passed_unasked : (s : State) (r : Request) (hint : Option Dedicated) (t : ℕ) → OwnObject ≡ strategy s r hint t → (heap_size s.properties t < r.size) ⊎ ((0 < s.remaining) × case.IsOverBudget (own_candidate s r.size t))
    → TriesCandidate s r hint t [] (Ok None) s
passed_unasked s r hint t own (inl larger) = (inl (larger, refl), refl)
passed_unasked s r hint t own (inr over) = elim (cases_lt (heap_size s.properties t) r.size) [
  | inl larger ↦ (inl (larger, refl), refl)
  | inr fits ↦ tries_by OwnObject s r hint t [] (Ok None) s fits own (refl, inl (inr (has_own over.0, over.1), refl))
]

-- and so where it is served by a shared chunk
tries_shared : (w : Strategy) (s : State) (r : Request) (hint : Option Dedicated) (t : ℕ) {D : Type 0} {step : D → Event → D → Type 0} {old after : D} (answer : Result (Option Block) AllocationError) (new : State) → w ≡ strategy s r hint t → w ≢ OwnObject
    → Asked step old after (λ es. TriesBy w s r t es answer new) → Asked step old after (λ es. TriesCandidate s r hint t es answer new)
tries_shared w s r hint t answer new is shared told = (told.0, told.1, tries_by w s r hint t told.0 answer new (shared_below s r hint t w is shared) is told.2)

pub returns-in-OwnObject-clause-tries : goal.returns-in-OwnObject-clause-tries
returns-in-OwnObject-clause-tries g c = ([], refl, passed_unasked c.args.self.now c.args.request c.args.hint c.args.memory_type c.in-OwnObject.ensures (c.is_passed_unasked.ensures.passed c.if-is_passed_unasked.true))

pub returns-in-OwnObject-2-clause-tries : goal.returns-in-OwnObject-2-clause-tries
returns-in-OwnObject-2-clause-tries g c =
    let tried = c.try_object.ensures.tries in
    let fits = c.is_passed_unasked.ensures.fits c.if-is_passed_unasked.false in
    (tried.0, tried.1, tries_by OwnObject c.args.self.now c.args.request c.args.hint c.args.memory_type tried.0 c.try_object.result c.try_object.new.self fits c.in-OwnObject.ensures tried.2)

pub returns-in-InBuddyChunk-clause-tries : goal.returns-in-InBuddyChunk-clause-tries
returns-in-InBuddyChunk-clause-tries g c = tries_shared InBuddyChunk c.args.self.now c.args.request c.args.hint c.args.memory_type c.try_buddy.result c.try_buddy.new.self c.in-InBuddyChunk.ensures (λ same. absurd (cc)) c.try_buddy.ensures.tries

pub try_buddy-requires-clause-chosen : goal.try_buddy-requires-clause-chosen
try_buddy-requires-clause-chosen g c = buddies_chosen c.args.self.now c.args.request c.args.hint c.args.memory_type c.in-InBuddyChunk.ensures

pub returns-in-InFreeList-clause-tries : goal.returns-in-InFreeList-clause-tries
returns-in-InFreeList-clause-tries g c = tries_shared InFreeList c.args.self.now c.args.request c.args.hint c.args.memory_type c.try_free_list.result c.try_free_list.new.self c.in-InFreeList.ensures (λ same. absurd (cc)) c.try_free_list.ensures.tries

pub try_free_list-requires-clause-fits : goal.try_free_list-requires-clause-fits
try_free_list-requires-clause-fits g c = fits_its_list c.args.self.now c.args.request c.args.hint c.args.memory_type c.in-InFreeList.ensures

pub returns-in-InFitChunk-clause-tries : goal.returns-in-InFitChunk-clause-tries
returns-in-InFitChunk-clause-tries g c = tries_shared InFitChunk c.args.self.now c.args.request c.args.hint c.args.memory_type c.try_fit.result c.try_fit.new.self c.in-InFitChunk.ensures (λ same. absurd (cc)) c.try_fit.ensures.tries

pub try_fit-requires-clause-chosen : goal.try_fit-requires-clause-chosen
try_fit-requires-clause-chosen g c = (fits_chosen c.args.self.now c.args.request c.args.hint c.args.memory_type c.in-InFitChunk.ensures).0

pub try_fit-requires-clause-fits : goal.try_fit-requires-clause-fits
try_fit-requires-clause-fits g c = (fits_chosen c.args.self.now c.args.request c.args.hint c.args.memory_type c.in-InFitChunk.ensures).1
