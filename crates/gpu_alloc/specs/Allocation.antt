-- How an allocation is decided: what each candidate asks of the device, and what the first candidate that is not passed
-- over answers.
use Rattle.std.specs.Prelude.{◌≡◌, ◌≢◌, ◌⊎◌, ℕ, ◌+◌, ◌%◌, ◌/◌, ◌^◌, ◌<◌, ◌≤◌, ◌==◌, Bool, true, false, ◌&&◌, ◌||◌, List, [], ◌∷◌, ◌++◌, length}
use Rattle.std.specs.Prelude.{Option, Some, None, Result, Ok, Err, IsTrue, ◌↔◌, cond, min, nat_lt, nat_le, nat_eq, MatchBool}
use Rattle.std.specs.Int.{bit_at}
use Rattle.std.specs.List.{Contains}
use Rattle.std.specs.FinMap as map
use Rattle.gpu_alloc_types.specs.Flags.{usage_bits, has_bit, transient}
use Rattle.gpu_alloc_types.specs.Properties.{Properties, heap_size, props_at, atom_of, is_host_visible}
use Rattle.gpu_alloc_types.specs.Device.{Object, Event}
use Rattle.gpu_alloc_base.specs.Case as case
use Rattle.gpu_alloc_base.specs.FreeSpace.{IsMultipleOf, IsPowerOfTwo}
use Rattle.gpu_alloc_base.specs.NewObject.{ObjectsGiven}
use Rattle.gpu_alloc_base.specs.Sizes.{up, preferred_threshold, transient_threshold, final_size}
use Rattle.gpu_alloc_base.specs.declared.error.AllocationError.{AllocationError}
use Rattle.gpu_alloc_base.specs.declared.error.AllocationError.TheVariants.{OutOfDeviceMemory, OutOfHostMemory}
use Rattle.gpu_alloc_base.specs.declared.error.AllocationError.TheVariants.{NoCompatibleMemoryTypes, TooManyObjects}
use Rattle.gpu_alloc_usage.specs.Ranking.{candidates, compatible, implied}
use Rattle.gpu_alloc.specs.Candidates.{candidate}
use Rattle.gpu_alloc.specs.FitSharing.{fit_alignment, fit_size, fits_first}
use Rattle.gpu_alloc.specs.Request.{in_pages, is_required}
use Rattle.gpu_alloc_block.specs.State.{HeldObject, Span, Block, span_of, State, IsLive, IsOwned, AreSpansApart, is_shared}
use Rattle.gpu_alloc.specs.declared.allocator.Ask.{Ask}
use Rattle.gpu_alloc.specs.declared.allocator.Strategy.{Strategy}
use Rattle.gpu_alloc.specs.declared.allocator.Strategy.TheVariants.{OwnObject, InBuddyChunk, InFreeList, InFitChunk}
use Rattle.gpu_alloc_block.specs.declared.block.Kind.TheVariants.{Dedicated as DedicatedObject, Imported, BuddyChunk, FitChunk}
use Rattle.gpu_alloc_block.specs.declared.sharing.Sharing.{Sharing}
use Rattle.gpu_alloc_block.specs.declared.sharing.Sharing.TheVariants.{Buddy, Fit}
use Rattle.gpu_alloc.specs.declared.request.Request.{Request}
use Rattle.gpu_alloc.specs.declared.request.Dedicated.{Dedicated}
use Rattle.gpu_alloc.specs.declared.request.Dedicated.TheVariants.{Required, Preferred}

-- How a candidate is served.

-- the request is below a threshold, and below a 32nd part of the candidate's heap
abbrev pub is_small : State → Request → ℕ → ℕ → Bool
is_small s r threshold t = nat_lt r.size (min threshold (heap_size s.properties t / 32))

-- in whole atoms it fits the largest free-list chunk
abbrev pub fits_a_chunk : State → Request → ℕ → Bool
fits_a_chunk s r t =
    let atom = atom_of s.properties t in
    nat_le (up r.size atom) (final_size s.config (heap_size s.properties t) atom)

-- how a small request that isn't transient shares an object, by choice: where fit chunks are chosen, it must fit the
-- first one
abbrev pub shares_by : Sharing → Bool → Strategy
shares_by Buddy fits = InBuddyChunk
shares_by Fit fits = cond fits InFitChunk OwnObject

abbrev pub unhinted : State → Request → ℕ → Strategy
unhinted s r t =
    cond (has_bit (usage_bits r.usage) transient)
    (cond (is_small s r (transient_threshold s.config) t && fits_a_chunk s r t) InFreeList OwnObject)
    (cond (is_small s r s.config.dedicated_threshold t) (shares_by s.sharing (fits_first s r t)) OwnObject)

abbrev pub strategy : State → Request → Option Dedicated → ℕ → Strategy
strategy s r (Some Required) t = OwnObject
strategy s r (Some Preferred) t = cond (nat_le (preferred_threshold s.config) r.size) OwnObject (unhinted s r t)
strategy s r None t = unhinted s r t

-- What becomes of a candidate.

-- A candidate is passed over: its heap is smaller than the request, or the way it would be served passes over it.
abbrev pub IsCandidatePassed : State → Request → Option Dedicated → ℕ → List Event → Type 0
IsCandidatePassed s r hint t es =
    ((heap_size s.properties t < r.size) × (es ≡ []))
    ⊎ ((r.size ≤ heap_size s.properties t) × case.IsPassed (candidate (strategy s r hint t) s r t) es)

-- A candidate decides: its heap is no smaller than the request, and the way it is served gives the answer.
abbrev pub CandidateDecides : State → Request → Option Dedicated → ℕ → List Event → Result Block AllocationError → State → Type 0
CandidateDecides s r hint t es answer new =
    (r.size ≤ heap_size s.properties t) × case.Decides (candidate (strategy s r hint t) s r t) es answer new

-- a candidate's error: without device memory it is passed over
abbrev pub passing : {T : Type 0} → AllocationError → Result (Option T) AllocationError
passing OutOfDeviceMemory = Ok None
passing OutOfHostMemory = Err OutOfHostMemory
passing NoCompatibleMemoryTypes = Err NoCompatibleMemoryTypes
passing TooManyObjects = Err TooManyObjects

-- A candidate was tried that is served in this way, and whose heap is no smaller than the request.
abbrev pub TriesBy : Strategy → State → Request → ℕ → List Event → Result (Option Block) AllocationError → State
    → Type 0
TriesBy w s r t es answer new = case.Tries (candidate w s r t) es answer new

-- One candidate was tried: it is passed over, or it decides.
abbrev pub TriesCandidate : State → Request → Option Dedicated → ℕ → List Event → Result (Option Block) AllocationError → State
    → Type 0
TriesCandidate s r hint t es (Ok None) new = IsCandidatePassed s r hint t es × (new ≡ s)
TriesCandidate s r hint t es (Ok (Some b)) new = CandidateDecides s r hint t es (Ok b) new
TriesCandidate s r hint t es (Err e) new = CandidateDecides s r hint t es (Err e) new

-- What each candidate is asked: the same request, perhaps with a hint.
abbrev pub ask : Request → Option Dedicated → ℕ → Ask
ask r hint t = record { request = r; hint = hint }

-- one candidate was tried for its request
abbrev pub TriesAsked : State → (ℕ → Ask) → ℕ → List Event → Result (Option Block) AllocationError → State → Type 0
TriesAsked s asked t es answer new = TriesCandidate s (asked t).request (asked t).hint t es answer new

-- In order of rank, the first candidate that is not passed over decides. Where all are, there is no device memory.
abbrev pub TriesAll : State → (ℕ → Ask) → List ℕ → List Event → Result Block AllocationError → State → Type 0
TriesAll s asked [] es answer new = (es ≡ []) × (answer ≡ Err OutOfDeviceMemory) × (new ≡ s)
TriesAll s asked (t ∷ ts) es answer new =
    ((first rest : List Event) × (es ≡ first ++ rest) × IsCandidatePassed s (asked t).request (asked t).hint t first
    × TriesAll s asked ts rest answer new)
    ⊎ CandidateDecides s (asked t).request (asked t).hint t es answer new

-- nothing is asked, and nothing changes
abbrev pub Refuses : State → AllocationError → List Event → Result Block AllocationError → State → Type 0
Refuses s e es answer new = (es ≡ []) × (answer ≡ Err e) × (new ≡ s)

-- the candidates of a request: the memory types for its usage whose bit it has set, the best first
abbrev pub candidates_of : State → Request → List ℕ
candidates_of s r = candidates s.properties.memory_types (usage_bits r.usage) r.memory_types

-- How a request is tried: whether it is larger than any may be, its hint, the candidates, and what each is asked.
pub record Plan : Type 0 where
  pub too_large : Bool
  pub hint : Option Dedicated
  pub candidates : List ℕ
  pub asked : ℕ → Ask

-- the checks before any candidate, in order, and then the candidates
abbrev pub AllocatesBy : State → Plan → List Event → Result Block AllocationError → State → Type 0
AllocatesBy s p es answer new =
    MatchBool p.too_large (Refuses s OutOfDeviceMemory es answer new) (
    MatchBool (is_required p.hint && (s.remaining == 0)) (Refuses s TooManyObjects es answer new) (
    MatchBool (nat_eq (length p.candidates) 0) (Refuses s NoCompatibleMemoryTypes es answer new) (
    TriesAll s p.asked p.candidates es answer new)))

-- the request is larger than the device allows
abbrev pub is_too_large : State → Request → Bool
is_too_large s r = nat_lt s.properties.max_memory_allocation_size r.size

-- each candidate is asked for the request
abbrev pub plan : State → Request → Option Dedicated → Plan
plan s r hint = record {
  too_large = is_too_large s r;
  hint = hint;
  candidates = candidates_of s r;
  asked = ask r hint;
}

-- An allocation.
unfoldable pub Allocates : State → Request → Option Dedicated → List Event → Result Block AllocationError → State → Type 0
Allocates s r hint es answer new = AllocatesBy s (plan s r hint) es answer new

-- Optimal images: whole pages of a granularity keep them apart from other blocks.

-- whether it is by an object of its own
abbrev pub is_alone : Strategy → Bool
is_alone OwnObject = true
is_alone InBuddyChunk = false
is_alone InFreeList = false
is_alone InFitChunk = false

abbrev pub serves_alone : State → Request → Option Dedicated → ℕ → Bool
serves_alone s r hint t = is_alone (strategy s r hint t)

-- a block has an object of its own exactly where its memory type serves the request that way
unfoldable pub IsAloneWhereServed : State → Request → Option Dedicated → Block → Type 0
IsAloneWhereServed s r hint b = IsTrue (serves_alone s r hint b.memory_type) ↔ (b.kind ≡ DedicatedObject)

-- that clause, spelled out
abbrev pub AloneIsTold : Type 0
AloneIsTold = (s : State) (r : Request) (hint : Option Dedicated) (b : Block) → IsAloneWhereServed s r hint b
    → IsTrue (serves_alone s r hint b.memory_type) ↔ (b.kind ≡ DedicatedObject)

-- a candidate is asked for whole pages, or for an object of the size as asked where the pages would get an object of
-- their own
abbrev pub ask_in_pages : State → Request → Option Dedicated → Request → ℕ → Ask
ask_in_pages s r hint paged t = cond (serves_alone s paged hint t) (ask r (Some Required) t) (ask paged hint t)

-- what a candidate is asked, where the request may be given in whole pages
abbrev pub asked_of : State → Request → Option Dedicated → Option Request → ℕ → Ask
asked_of s r hint None = ask r hint
asked_of s r hint (Some paged) = ask_in_pages s r hint paged

-- the plan where whole pages for the request are below 2^64 bytes, or are not asked for
abbrev pub plan_with : State → Request → Option Dedicated → Option Request → Plan
plan_with s r hint paged = record (plan s r hint) { asked = asked_of s r hint paged }

-- a request is also too large if whole pages for it have 2^64 bytes or more
abbrev pub plan_in_pages : State → Request → Option Dedicated → ℕ → Plan
plan_in_pages s r hint granularity = record {
  too_large = nat_le (2 ^ 64) (up r.size granularity) || is_too_large s r;
  hint = hint;
  candidates = candidates_of s r;
  asked = ask_in_pages s r hint (in_pages granularity r);
}

-- An allocation of an optimal block.
unfoldable pub AllocatesOptimal : State → Request → Option Dedicated → ℕ → List Event → Result Block AllocationError
    → State → Type 0
AllocatesOptimal s r hint granularity es answer new = AllocatesBy s (plan_in_pages s r hint granularity) es answer new

-- in a shared object the block begins at a page, and has whole pages for the size as asked
abbrev pub IsInPages : ℕ → ℕ → Block → Type 0
IsInPages granularity size b = is_shared b.kind ≡ true → (b.offset % granularity ≡ 0) × (up size granularity ≤ b.size)

-- What an allocation does to the device's objects.

-- an object as it is counted: of its memory type and size, and mapped whole where it is shared and host-visible
pub record IsAsCounted (p : Properties) (h : HeldObject) (o : Object) : Type 0 where
  pub of_type : o.memory_type ≡ h.memory_type
  pub of_size : o.size ≡ h.counted
  pub mapped : o.mapped ≡ cond (is_shared h.kind && is_host_visible p h.memory_type) (Some (0, h.counted)) None

-- a grant: one object more, as it is counted now, where the block's object was not held before; else no change
abbrev pub ObjectsWith : State → Block → State → (ℕ → Option Object) → (ℕ → Option Object) → Type 0
ObjectsWith s b after old new =
    ObjectsGiven (IsAsCounted s.properties) (map.get s.held b.object) (map.get after.held b.object) b.object old new

-- an allocation: an error changes nothing
abbrev pub ObjectsAfter : State → Result Block AllocationError → State → (ℕ → Option Object) → (ℕ → Option Object)
    → Type 0
ObjectsAfter s (Ok b) after old new = ObjectsWith s b after old new
ObjectsAfter s (Err e) after old new = new ≡ old

-- the same for one candidate that was tried
abbrev pub ObjectsTried : State → Result (Option Block) AllocationError → State → (ℕ → Option Object)
    → (ℕ → Option Object) → Type 0
ObjectsTried s (Ok None) after old new = new ≡ old
ObjectsTried s (Ok (Some b)) after old new = ObjectsWith s b after old new
ObjectsTried s (Err e) after old new = new ≡ old

-- the memory type is one of the request's candidates
unfoldable pub IsCandidate : State → Request → ℕ → Type 0
IsCandidate s r t = Contains (candidates_of s r) t

-- There is such a memory type, the request permits it, and it may serve the request's usage.
pub record ServesRequest (s : State) (r : Request) (t : ℕ) : Type 0 where
  pub known : t < length s.properties.memory_types
  pub permitted : bit_at r.memory_types t ≡ 1
  pub serves : compatible (implied (usage_bits r.usage)) (props_at s.properties t) ≡ true

-- each candidate serves the request
pub record CandidatesServe : Type 0 where
  pub each : (s : State) (r : Request) (t : ℕ) → IsCandidate s r t → ServesRequest s r t

-- a block is as long as requested, in whole grains of this memory type, and starts at a grain and with the request's
-- alignment
abbrev pub IsAsAsked : State → Request → ℕ → Block → Type 0
IsAsAsked s r t b = (b.size ≡ fit_size s r t) × IsMultipleOf (fit_alignment s r t) b.offset

-- a block of a fit chunk is as requested
unfoldable pub IsExactFit : State → Request → Block → Type 0
IsExactFit s r b = b.kind ≡ FitChunk → IsAsAsked s r b.memory_type b

-- that clause, spelled out
abbrev pub ExactIsTold : Type 0
ExactIsTold = (s : State) (r : Request) (b : Block) → IsExactFit s r b → b.kind ≡ FitChunk → IsAsAsked s r b.memory_type b

-- what a caller may know of a granted block without following the decision
pub record IsGranted (s : State) (r : Request) (new : State) (b : Block) : Type 0 where
  pub enough : r.size ≤ b.size
  pub aligned : b.offset % (r.align_mask + 1) ≡ 0
  pub whole_atoms : is_shared b.kind ≡ true → (b.offset % atom_of s.properties b.memory_type ≡ 0)
      × (b.size % atom_of s.properties b.memory_type ≡ 0)
  -- a block of a buddy chunk has a power of two of bytes and begins at a multiple of its size
  pub buddy : b.kind ≡ BuddyChunk → IsPowerOfTwo b.size × IsMultipleOf b.size b.offset
  -- the block lies inside its object
  pub inside : (h : HeldObject) × (map.get new.held b.object ≡ Some h) × (b.offset + b.size ≤ h.counted)
  pub unmapped : b.mapping ≡ None
  -- its object was made by the allocator, not imported
  pub made : b.kind ≢ Imported
  -- its memory type is one of the request's candidates, whose property bits and atom the block has
  pub candidate : IsCandidate s r b.memory_type
  pub props : b.props ≡ props_at s.properties b.memory_type
  pub atom : b.atom ≡ atom_of s.properties b.memory_type
  pub some_atom : 0 < b.atom
  pub owned : IsOwned new b
  pub was_free : (span : Span) → IsLive s span → AreSpansApart span (span_of b)
