-- How an allocator decides a request. Buddy allocators and free lists use it among their own chunks, and the whole
-- allocator for each way of serving a candidate.
use Rattle.std.specs.Prelude.{◌≡◌, ◌⊎◌, ℕ, ◌+◌, ◌<◌, ◌≤◌, Bool, List, [], Option, Some, None, Result, Ok, Err, IsTrue}
use Rattle.gpu_alloc_types.specs.Device.{Event}
use Rattle.gpu_alloc_base.specs.NewChunk.{ChunkQuestion, made, LacksDeviceMemory, LacksHostMemory, IsReleased}
use Rattle.gpu_alloc_base.specs.declared.error.AllocationError.{AllocationError}
use Rattle.gpu_alloc_base.specs.declared.error.AllocationError.TheVariants.{OutOfDeviceMemory, OutOfHostMemory}
use Rattle.gpu_alloc_base.specs.declared.error.AllocationError.TheVariants.{NoCompatibleMemoryTypes, TooManyObjects}

-- What the decision of one request depends on, before anything is asked. B are the blocks, S the states.
pub record Case (B S : Type 0) : Type 1 where
  -- the state before, which a refusal keeps
  pub before : S
  -- the question would be for less than 2^64 bytes
  pub Fits : Type 0
  -- there is room in what is held
  pub HasPlace : Type 0
  -- how many more objects may be held
  pub remaining : ℕ
  -- a number is left for a new chunk
  pub HasNumber : Type 0
  -- the question for the device where there is no place
  pub question : ChunkQuestion
  -- how many bytes the heap's ledger counts, and how many it may count at most
  pub ledger : ℕ
  pub limit : ℕ
  -- a new object gets a second handle, for which host memory may be missing
  pub two_handles : Bool
  -- the name of a block's object
  pub object : B → ℕ
  -- the block and the new state are as a place in a held object gives them
  pub IsInPlace : B → Type 0
  pub with_block : B → S
  -- the block and the new state are as a new object gives them
  pub IsInNewObject : B → Type 0
  pub with_object : B → S

module _ {B S : Type 0} (c : Case B S) where
  -- nothing more may be asked: no more objects may be held, or the numbers are used up
  abbrev pub IsBarred : Type 0
  IsBarred = (c.remaining ≡ 0) ⊎ (c.HasNumber → ⊥)

  -- one more object may be asked for
  pub record MayAsk : Type 0 where
    pub objects : 0 < c.remaining
    pub number : c.HasNumber

  -- there is a question: it fits, there is no place, and one more object may be asked for
  pub record HasQuestion : Type 0 where
    pub fits : c.Fits
    pub no_place : c.HasPlace → ⊥
    pub remains : MayAsk

  -- the question stays within the heap's limit
  abbrev pub IsWithinBudget : Type 0
  IsWithinBudget = c.ledger + c.question.size ≤ c.limit

  -- the question exceeds the heap's limit
  abbrev pub IsOverBudget : Type 0
  IsOverBudget = c.limit < c.ledger + c.question.size

  -- the question is asked: there is one, within the budget
  pub record Asks : Type 0 where
    pub has : HasQuestion
    pub within : IsWithinBudget

  -- no refusal is certain yet: it fits, and there is a place, or one more object may be asked for within the budget
  pub record IsOpen : Type 0 where
    pub fits : c.Fits
    pub ways : c.HasPlace ⊎ (MayAsk × IsWithinBudget)

  -- why the device may not be asked, if so: no more objects may be held, or the question is over the budget
  abbrev pub RefusesQuestion : Option AllocationError → Type 0
  RefusesQuestion None = MayAsk × IsWithinBudget
  RefusesQuestion (Some TooManyObjects) = IsBarred
  RefusesQuestion (Some OutOfDeviceMemory) = MayAsk × IsOverBudget
  RefusesQuestion (Some OutOfHostMemory) = ⊥
  RefusesQuestion (Some NoCompatibleMemoryTypes) = ⊥

  -- it is refused before anything is asked: there is no place, and no more objects may be held
  pub record IsShut : Type 0 where
    pub fits : c.Fits
    pub no_place : c.HasPlace → ⊥
    pub barred : IsBarred

  -- it is passed over before anything is asked: the question is too large for any device, or over the budget
  abbrev pub IsPassedUnasked : Type 0
  IsPassedUnasked = (c.Fits → ⊥) ⊎ (HasQuestion × IsOverBudget)

  -- The request is passed over: unasked, or after the device had no memory for exactly that question.
  abbrev pub IsPassed : List Event → Type 0
  IsPassed es = (IsPassedUnasked × (es ≡ [])) ⊎ (Asks × LacksDeviceMemory c.question es)

  -- the block lies in a place in a held object, and nothing is asked
  pub record GivesInPlace (es : List Event) (b : B) (new : S) : Type 0 where
    pub fits : c.Fits
    pub place : c.IsInPlace b
    pub asked : es ≡ []
    pub state : new ≡ c.with_block b

  -- the block lies in a new object
  pub record GivesInNewObject (es : List Event) (b : B) (new : S) : Type 0 where
    pub asks : Asks
    pub place : c.IsInNewObject b
    pub asked : es ≡ made c.question (c.object b)
    pub state : new ≡ c.with_object b

  -- there was no host memory for what the question led to
  abbrev pub HostRefuses : List Event → Type 0
  HostRefuses es = LacksHostMemory c.question es ⊎ (IsTrue c.two_handles × IsReleased c.question es)

  -- host memory was missing: for the allocator, before anything was asked, or for the device
  abbrev pub LacksHost : List Event → Type 0
  LacksHost es = ((es ≡ []) × IsOpen) ⊎ (Asks × HostRefuses es)

  -- The answer to a request that is not passed over.
  abbrev pub Decides : List Event → Result B AllocationError → S → Type 0
  Decides es (Ok b) new = GivesInPlace es b new ⊎ GivesInNewObject es b new
  Decides es (Err TooManyObjects) new = (new ≡ c.before) × (es ≡ []) × IsShut
  Decides es (Err OutOfHostMemory) new = (new ≡ c.before) × LacksHost es
  Decides es (Err OutOfDeviceMemory) new = ⊥
  Decides es (Err NoCompatibleMemoryTypes) new = ⊥

  -- One request was tried: it is passed over, or decided.
  abbrev pub Tries : List Event → Result (Option B) AllocationError → S → Type 0
  Tries es (Ok None) new = (new ≡ c.before) × IsPassed es
  Tries es (Ok (Some b)) new = Decides es (Ok b) new
  Tries es (Err e) new = Decides es (Err e) new

  -- The same where no other candidate is left: a request that is passed over is refused.
  abbrev pub Answers : List Event → Result B AllocationError → S → Type 0
  Answers es (Err OutOfDeviceMemory) new = (new ≡ c.before) × IsPassed es
  Answers es (Ok b) new = Decides es (Ok b) new
  Answers es (Err TooManyObjects) new = Decides es (Err TooManyObjects) new
  Answers es (Err OutOfHostMemory) new = Decides es (Err OutOfHostMemory) new
  Answers es (Err NoCompatibleMemoryTypes) new = ⊥

  -- the refusal that is certain before any memory is taken and anything is asked
  abbrev pub RefusesFirst : Option AllocationError → Type 0
  RefusesFirst (Some OutOfDeviceMemory) = IsPassedUnasked
  RefusesFirst (Some TooManyObjects) = IsShut
  RefusesFirst (Some OutOfHostMemory) = ⊥
  RefusesFirst (Some NoCompatibleMemoryTypes) = ⊥
  RefusesFirst None = IsOpen
