-- Invalid values from C, which a desk cannot represent.
use Rattle.std.specs.Prelude.{◌≡◌, ◌≢◌, ◌⊎◌, ◌==◌, ◌+◌, ◌<◌, ◌≤◌, ◌&&◌, ◌||◌, ℕ, Bool, true, false, nat_lt, IsTrue, List, All, Any}
use Rattle.gpu_alloc_types.specs.Flags.{has_all_bits, named_usage_bits}
use Rattle.wallthyme.specs.declared.layout.TheConstants as number
use Rattle.wallthyme.specs.declared.layout.Block.{Block}
use Rattle.wallthyme.specs.declared.layout.Question.{Question}
use Rattle.wallthyme.specs.declared.layout.Request.{Request}
use Rattle.wallthyme.specs.declared.status.TheConstants as status

-- each usage bit is named
abbrev pub IsUsage : ℕ → Type 0
IsUsage bits = IsTrue (has_all_bits named_usage_bits bits)

-- the number is a way to share objects
abbrev pub IsSharing : ℕ → Type 0
IsSharing n = n ≤ number.FIT

-- all flags of a request
abbrev pub all_flags : ℕ
all_flags = number.OPTIMAL + number.HELD_ONLY

-- the request has an invalid usage, hint or flag, and the status names the first in this order
abbrev pub IsUnnamed : Request → ℕ → Type 0
IsUnnamed r told =
    ((told ≡ status.BAD_USAGE) × (IsUsage r.usage → ⊥))
    ⊎ (((told ≡ status.BAD_DEDICATED) × (IsUsage r.usage × (number.REQUIRED < r.dedicated)))
    ⊎ ((told ≡ status.BAD_FLAGS) × (IsUsage r.usage × ((r.dedicated ≤ number.REQUIRED) × (all_flags < r.flags)))))

-- it is a valid question
abbrev pub is_question : Question → Bool
is_question q = (q.kind == number.ALLOCATE && nat_lt q.flags 512) || (q.kind == number.MAP_MADE || q.kind == number.MAP)

-- its answer is valid
abbrev pub is_answered : Question → Bool
is_answered q = is_question q && nat_lt q.answer 4

abbrev pub HasNoAnswer : List Question → Type 0
HasNoAnswer asked = Any (λ q. is_answered q ≡ false) asked

-- each usage bit is named, the hint is one of the three, and each flag is named
pub record HasNames (r : Request) : Type 0 where
  pub usage : IsUsage r.usage
  pub hint : r.dedicated ≤ number.REQUIRED
  pub flags : r.flags ≤ all_flags

-- each is a valid question with a valid answer
abbrev pub AreAnswered : List Question → Type 0
AreAnswered asked = All (λ q. is_answered q ≡ true) asked

-- the request and its answers are valid
pub record IsWellFormedRequest (r : Request) (asked : List Question) : Type 0 where
  pub request : HasNames r
  pub answers : AreAnswered asked

-- a question as C gets it: unanswered, with 0 in every field that it does not use
pub record IsAsked (q : Question) : Type 0 where
  pub question : is_question q ≡ true
  pub unanswered : q.answer ≡ number.UNANSWERED
  pub object : q.kind ≢ number.MAP → q.object ≡ 0
  pub offset : q.kind ≡ number.ALLOCATE → q.offset ≡ 0
  pub memory_type : q.kind ≢ number.ALLOCATE → q.memory_type ≡ 0
  pub flags : q.kind ≢ number.ALLOCATE → q.flags ≡ 0

-- the request is invalid, or else one of its answers, and the status says which
abbrev pub IsMalformed : Request → List Question → ℕ → Type 0
IsMalformed r asked told = IsUnnamed r told ⊎ ((told ≡ status.BAD_ANSWER) × (HasNames r × HasNoAnswer asked))

-- a block as C gets it: fresh or not, optimal or not, and nothing else
pub record HasFlags (b : Block) : Type 0 where
  pub fresh : b.fresh ≤ 1
  pub flags : b.flags ≤ number.OPTIMAL
  pub reserved : b.reserved ≡ 0
