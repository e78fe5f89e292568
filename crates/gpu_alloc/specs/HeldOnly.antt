-- An allocation that asks the device for nothing and is served only from what is held.
use Rattle.std.specs.Prelude.{◌≡◌, ◌⊎◌, ℕ, List, [], ◌∷◌, length, nat_eq, Option, Some, None, Result, Ok, Err}
use Rattle.std.specs.Prelude.{MatchBool}
use Rattle.gpu_alloc_base.specs.declared.error.AllocationError.{AllocationError}
use Rattle.gpu_alloc_base.specs.declared.error.AllocationError.TheVariants.{OutOfDeviceMemory, OutOfHostMemory}
use Rattle.gpu_alloc_base.specs.declared.error.AllocationError.TheVariants.{NoCompatibleMemoryTypes}
use Rattle.gpu_alloc_block.specs.State.{Block, State}
use Rattle.gpu_alloc.specs.Allocation.{CandidateDecides, Plan, plan, plan_in_pages, strategy}
use Rattle.gpu_alloc.specs.Candidates.{candidate}
use Rattle.gpu_alloc.specs.Request.{in_pages}
use Rattle.gpu_alloc.specs.declared.allocator.Ask.{Ask}
use Rattle.gpu_alloc.specs.declared.allocator.Strategy.{Strategy}
use Rattle.gpu_alloc.specs.declared.request.Dedicated.{Dedicated}
use Rattle.gpu_alloc.specs.declared.request.Request.{Request}

-- A memory type that is served in this way has a place for the request in a held chunk. An object of its own is never a
-- place.
pub record HasPlaceBy (w : Strategy) (s : State) (r : Request) (t : ℕ) : Type 0 where
  pub fits : (candidate w s r t).Fits
  pub place : (candidate w s r t).HasPlace

-- a candidate has a place for its request
abbrev pub HasPlaceFor : State → (ℕ → Ask) → ℕ → Type 0
HasPlaceFor s asked t =
    HasPlaceBy (strategy s (asked t).request (asked t).hint t) s (asked t).request t

-- the first of some candidates that has a place, if one has
abbrev pub IsFirstWithPlace : State → (ℕ → Ask) → List ℕ → Option ℕ → Type 0
IsFirstWithPlace s asked [] found = found ≡ None
IsFirstWithPlace s asked (t ∷ ts) found =
    (HasPlaceFor s asked t × (found ≡ Some t))
    ⊎ ((HasPlaceFor s asked t → ⊥) × IsFirstWithPlace s asked ts found)

-- What that candidate answers, or `None` without a candidate. It gives the block that it gives without a question to
-- the device, or the error for want of host memory.
abbrev pub ServesHeld : State → (ℕ → Ask) → Option ℕ → Result (Option Block) AllocationError → State → Type 0
ServesHeld s asked None answer new = (answer ≡ Ok None) × (new ≡ s)
ServesHeld s asked (Some t) (Ok None) new = ⊥
ServesHeld s asked (Some t) (Ok (Some b)) new = CandidateDecides s (asked t).request (asked t).hint t [] (Ok b) new
ServesHeld s asked (Some t) (Err e) new = (e ≡ OutOfHostMemory) × (new ≡ s)

-- it is refused, and nothing changes
abbrev pub IsRefused : State → AllocationError → Result (Option Block) AllocationError → State → Type 0
IsRefused s e answer new = (answer ≡ Err e) × (new ≡ s)

-- The checks before any candidate, as for a request that may ask. The count of objects is not checked, since none is
-- made. Then the first candidate with a place, in order of rank, serves.
abbrev pub AllocatesHeld : State → Plan → Result (Option Block) AllocationError → State → Type 0
AllocatesHeld s p answer new =
    MatchBool p.too_large (IsRefused s OutOfDeviceMemory answer new) (
    MatchBool (nat_eq (length p.candidates) 0) (IsRefused s NoCompatibleMemoryTypes answer new) (
    (found : Option ℕ) × IsFirstWithPlace s p.asked p.candidates found × ServesHeld s p.asked found answer new))

-- the request as a shared chunk serves it: in whole pages, where there is a granularity
abbrev pub in_pages_where : Option ℕ → Request → Request
in_pages_where None r = r
in_pages_where (Some granularity) r = in_pages granularity r

-- how a request is tried, with a granularity of pages or none
abbrev pub plan_held : State → Request → Option Dedicated → Option ℕ → Plan
plan_held s r hint None = plan s r hint
plan_held s r hint (Some granularity) = plan_in_pages s r hint granularity
