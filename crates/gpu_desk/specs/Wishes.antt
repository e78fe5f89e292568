-- How a wish is asked of the allocator, and which of its questions are for an object of the block's own.
use Rattle.std.specs.Prelude.{◌≡◌, ◌<◌, ◌==◌, ◌&&◌, ℕ, Bool, false, not, cond, length, Option, Some, None}
use Rattle.gpu_alloc.specs.Allocation.{Plan, plan, plan_in_pages, serves_alone}
use Rattle.gpu_alloc.specs.HeldOnly.{in_pages_where}
use Rattle.gpu_alloc.specs.State.{State}
use Rattle.gpu_alloc.specs.declared.request.Request.{Request}
use Rattle.gpu_answers.specs.declared.question.Question.{Question}
use Rattle.gpu_answers.specs.declared.question.Question.TheVariants.{Allocate, MapMade, Map}
use Rattle.gpu_desk.specs.declared.wish.Wish.{Wish}

-- A request goes by whole pages if it is for an optimal resource and a page has more than one byte.
abbrev pub goes_by_pages : ℕ → Wish → Bool
goes_by_pages granularity w = w.optimal && not (granularity == 1)

-- the granularity of its pages, or `None`
abbrev pub pages_of : ℕ → Wish → Option ℕ
pages_of granularity w = cond (goes_by_pages granularity w) (Some granularity) None

-- the request as a shared chunk serves it: in whole pages, if it goes by them
abbrev pub served_as : ℕ → Request → Wish → Request
served_as granularity r w = in_pages_where (pages_of granularity w) r

-- how the allocator tries the request
abbrev pub plan_for : State → ℕ → Request → Wish → Plan
plan_for s granularity r w =
    cond (goes_by_pages granularity w) (plan_in_pages s r w.dedicated granularity) (plan s r w.dedicated)

-- whether a memory type serves its request by an object of the block's own
abbrev pub is_own : State → Plan → ℕ → Bool
is_own s p t = serves_alone s (p.asked t).request (p.asked t).hint t

-- whether a question is for such an object
abbrev pub asks_own : State → Plan → Question → Bool
asks_own s p (Allocate size t flags) = is_own s p t
asks_own s p (MapMade offset size) = false
asks_own s p (Map object offset size) = false

-- The plan may lead to this question. A question for an object needs a request that is not too large, and a memory type
-- that exists.
abbrev pub MayCome : State → Plan → Question → Type 0
MayCome s p (Allocate size t flags) = (p.too_large ≡ false) × (t < length s.properties.memory_types)
MayCome s p (MapMade offset size) = Unit {0}
MayCome s p (Map object offset size) = Unit {0}
