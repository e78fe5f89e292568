-- What follows of a block that was served with no question, and of an answer that gives none.
use Rattle.std.proofs.Common.{◌≡◌, ℕ, true, false, Contains, List, [], ◌∷◌, Option, Some, None, Result, Ok, Err, IfOk, IfSome, refl, sym, ◌∙◌, ap, subst, inl, inr}
use Rattle.gpu_alloc_types.specs.Device.{Event, Object}
use Rattle.gpu_alloc_base.specs.Case as case
use Rattle.gpu_alloc_base.specs.declared.error.AllocationError.{AllocationError}
use Rattle.gpu_alloc_base.specs.declared.error.AllocationError.TheVariants.{OutOfDeviceMemory}
use Rattle.gpu_alloc_block.specs.State.{Block, State, is_shared, span_of}
use Rattle.gpu_alloc.specs.Allocation.{AllocatesBy, IsExactFit, IsGranted, IsInPages, ObjectsAfter, ObjectsTried, Plan, candidates_of, strategy}
use Rattle.gpu_alloc.specs.Atoms.{KeepsAtoms}
use Rattle.gpu_alloc.specs.BuddySharing.{with_span}
use Rattle.gpu_alloc.specs.Candidates.{candidate}
use Rattle.gpu_alloc.specs.HeldOnly.{HasPlaceBy, HasPlaceFor, in_pages_where, plan_held}
use Rattle.gpu_alloc.specs.Request.{IsAskable, IsGranularity}
use Rattle.gpu_alloc.specs.Sound.{IsSound}
use Rattle.gpu_alloc.specs.declared.allocator.Strategy.{Strategy}
use Rattle.gpu_alloc.specs.declared.allocator.Strategy.TheVariants.{OwnObject, InBuddyChunk, InFreeList, InFitChunk}
use Rattle.gpu_alloc.specs.declared.request.Dedicated.{Dedicated}
use Rattle.gpu_alloc.specs.declared.request.Dedicated.TheVariants.{Required}
use Rattle.gpu_alloc.specs.declared.request.Request.{Request}
use Rattle.gpu_alloc.proofs.Granted.{IsPlanFor, candidate_granted, exact_block, granted_as, is_plan, served_so}
use Rattle.gpu_alloc.proofs.HeldOnly.{IsHeldAnswer}
use Rattle.gpu_alloc.proofs.InPages.{candidate_in_pages, exact_in_pages, is_plan_in_pages}

-- The plan.

pub is_plan_held : (s : State) (r : Request) (hint : Option Dedicated) (granularity : Option ℕ) → IfSome granularity IsGranularity → IsAskable s.properties.buffer_device_address r → IsPlanFor s r (plan_held s r hint granularity)
is_plan_held s r hint None page askable = is_plan s r hint askable
is_plan_held s r hint (Some granularity) page askable = is_plan_in_pages s r hint granularity page askable

-- what demands an object of its own has no place anywhere
required_nowhere : (s : State) (r : Request) (granularity : Option ℕ) (t : ℕ) → HasPlaceFor s (plan_held s r (Some Required) granularity).asked t → ⊥
required_nowhere s r None t has = absurd has.place
required_nowhere s r (Some granularity) t has = absurd has.place

pub nowhere : (s : State) (r : Request) (hint : Option Dedicated) (granularity : Option ℕ) → hint ≡ Some Required → (t : ℕ) → HasPlaceFor s (plan_held s r hint granularity).asked t → ⊥
nowhere s r hint granularity required t has = required_nowhere s r granularity t (subst (λ h. HasPlaceFor s (plan_held s r h granularity).asked t) required has)

-- A block in a place.

-- nothing changes but that one more span is live, and the object is a shared one
placed : (w : Strategy) (s : State) (r : Request) (t : ℕ) (es : List Event) (b : Block) (new : State) → HasPlaceBy w s r t → case.Decides (candidate w s r t) es (Ok b) new → (new ≡ with_span s (span_of b)) × (is_shared b.kind ≡ true)
placed OwnObject s r t es b new has decides = absurd has.place
placed InBuddyChunk s r t es b new has (inl gives) = (gives.state, ap (λ (x : Block). is_shared x.kind) gives.place.is)
placed InBuddyChunk s r t es b new has (inr gives) = absurd (gives.asks.has.no_place has.place)
placed InFreeList s r t es b new has (inl gives) = (gives.state, ap (λ (x : Block). is_shared x.kind) gives.place.is)
placed InFreeList s r t es b new has (inr gives) = absurd (gives.asks.has.no_place has.place)
placed InFitChunk s r t es b new has (inl gives) = (gives.state, ap (λ (x : Block). is_shared x.kind) gives.place.is)
placed InFitChunk s r t es b new has (inr gives) = absurd (gives.asks.has.no_place has.place)

-- the block that is answered, if there is one; for whatever else there is, a refusal
abbrev pub block_of : Result (Option Block) AllocationError → Result Block AllocationError
block_of (Ok (Some b)) = Ok b
block_of (Ok None) = Err OutOfDeviceMemory
block_of (Err e) = Err OutOfDeviceMemory

pub if_served : (P : Block → Type 0) (answer : Result (Option Block) AllocationError) → IfOk (block_of answer) P → IfOk answer (λ v. IfSome v P)
if_served P (Ok (Some b)) is = is
if_served P (Ok None) is = tt
if_served P (Err e) is = tt

pub objects_of_block : (s : State) (answer : Result (Option Block) AllocationError) (new : State) (f g : ℕ → Option Object) → ObjectsTried s answer new f g → ObjectsAfter s (block_of answer) new f g
objects_of_block s (Ok (Some b)) new f g objects = objects
objects_of_block s (Ok None) new f g objects = objects
objects_of_block s (Err e) new f g objects = objects

module _ (s : State) (p : Plan) (answer : Result (Option Block) AllocationError) (new : State) where
  -- such a plan decides so with no question: one of nothing but that candidate, or of too large a request
  abbrev pub IsPlanned : Type 0
  IsPlanned = (q : Plan) × AllocatesBy s q [] (block_of answer) new

pub planned : (s : State) (p : Plan) (answer : Result (Option Block) AllocationError) (new : State) → IsHeldAnswer s p answer new → IsPlanned s p answer new
planned s p (Ok (Some b)) new is = (record { too_large = false; hint = None; candidates = is.0 ∷ []; asked = p.asked }, inr is.3)
planned s p (Ok None) new same = (record p { too_large = true }, (refl, refl, same))
planned s p (Err e) new same = (record p { too_large = true }, (refl, refl, same))

module _ (s : State) (p : Plan) where
  pub held_stays : (answer : Result (Option Block) AllocationError) (new : State) → IsHeldAnswer s p answer new → (new.held ≡ s.held) × (new.remaining ≡ s.remaining)
  held_stays (Ok (Some b)) new is =
      let a = p.asked is.0 in
      let now = (placed (strategy s a.request a.hint is.0) s a.request is.0 [] b new is.2 is.3.1).0 in
      (ap (λ (x : State). x.held) now, ap (λ (x : State). x.remaining) now)
  held_stays (Ok None) new same = (ap (λ (x : State). x.held) same, ap (λ (x : State). x.remaining) same)
  held_stays (Err e) new same = (ap (λ (x : State). x.held) same, ap (λ (x : State). x.remaining) same)

  pub shared_block : (answer : Result (Option Block) AllocationError) (new : State) → IsHeldAnswer s p answer new → IfOk answer (λ v. IfSome v (λ b. is_shared b.kind ≡ true))
  shared_block (Ok (Some b)) new is = let a = p.asked is.0 in (placed (strategy s a.request a.hint is.0) s a.request is.0 [] b new is.2 is.3.1).1
  shared_block (Ok None) new same = tt
  shared_block (Err e) new same = tt

module _ (s : State) (r : Request) (sound : IsSound s) (atoms : KeepsAtoms s) where
  pub granted_block : (p : Plan) → IsPlanFor s r p → (answer : Result (Option Block) AllocationError) (new : State) → IsHeldAnswer s p answer new → IfOk (block_of answer) (IsGranted s r new)
  granted_block p for (Ok (Some b)) new is =
      let t = is.0 in
      let a = p.asked t in
      let serves = for.serves t in
      let own : Contains (candidates_of s a.request) t = subst (λ ts. Contains ts t) (for.candidates ∙ sym serves.candidates) is.1 in
      granted_as s r a.request new b serves (candidate_granted s a.request a.hint t [] b new sound atoms serves.askable own is.3)
  granted_block p for (Ok None) new same = tt
  granted_block p for (Err e) new same = tt

  pub paged_block : (hint : Option Dedicated) (granularity : Option ℕ) → IfSome granularity IsGranularity → IsAskable s.properties.buffer_device_address r → (answer : Result (Option Block) AllocationError) (new : State)
      → IsHeldAnswer s (plan_held s r hint granularity) answer new → IfOk answer (λ v. IfSome v (λ b. IfSome granularity (λ page. IsInPages page r.size b)))
  paged_block hint None page askable (Ok (Some b)) new is = tt
  paged_block hint (Some granularity) page askable (Ok (Some b)) new is = candidate_in_pages s r hint granularity page askable sound atoms is.0 [] b new is.1 is.3
  paged_block hint granularity page askable (Ok None) new same = tt
  paged_block hint granularity page askable (Err e) new same = tt

module _ (s : State) (r : Request) where
  pub exact_held : (hint : Option Dedicated) (granularity : Option ℕ) → IfSome granularity IsGranularity → IsAskable s.properties.buffer_device_address r → (answer : Result (Option Block) AllocationError) (new : State)
      → IsHeldAnswer s (plan_held s r hint granularity) answer new → IfOk answer (λ v. IfSome v (IsExactFit s (in_pages_where granularity r)))
  exact_held hint None page askable (Ok (Some b)) new is = exact_block s r (strategy s r hint is.0) is.0 b (served_so (strategy s r hint is.0) s r is.0 [] b new is.3.1)
  exact_held hint (Some granularity) page askable (Ok (Some b)) new is =
      let a = (plan_held s r hint (Some granularity)).asked is.0 in
      exact_in_pages s r hint granularity page askable b (record { t = is.0; so = served_so (strategy s a.request a.hint is.0) s a.request is.0 [] b new is.3.1 })
  exact_held hint granularity page askable (Ok None) new same = tt
  exact_held hint granularity page askable (Err e) new same = tt
