-- What contracts see of a `FramePlanner`.
use Rattle.std.specs.Prelude.{ℕ, List, Option, refl}
use Rattle.std.specs.Coded.{Coded, code_by, coded×, coded_ℕ, coded_list}
use Rattle.gpu_alloc_types.specs.Device.{Object}
use Rattle.gpu_alloc_block.specs.Codes.{block_code}
use Rattle.gpu_alloc_block.specs.Kept.{outside}
use Rattle.gpu_alloc_block.specs.Lists.{LeavesList}
use Rattle.gpu_alloc_block.specs.State.{Block, State}
use Rattle.gpu_alloc.specs.Codes.{state_code}

-- an allocator, its device, and the blocks in hand, the oldest first
pub record QueueState (D : Type 0) : Type 0 where
  pub allocator : State
  pub device : D
  pub blocks : List Block

abbrev pub queue_code : {D : Type 0} → Coded D → Coded (QueueState D)
queue_code {D} d =
    code_by (State × (D × List Block)) (coded× state_code (coded× d (coded_list block_code)))
    (λ q. (q.allocator, (q.device, q.blocks))) (λ c. record { allocator = c.0; device = c.1.0; blocks = c.1.1 }) (λ _. refl)

-- the queue, and how many of the blocks each flight has, the oldest first
pub record PlannerState (D : Type 0) : Type 0 where
  pub hand : QueueState D
  pub counts : List ℕ

abbrev pub planner_code : {D : Type 0} → Coded D → Coded (PlannerState D)
planner_code {D} d =
    code_by (QueueState D × List ℕ) (coded× (queue_code d) (coded_list coded_ℕ))
    (λ p. (p.hand, p.counts)) (λ c. record { hand = c.0; counts = c.1 }) (λ _. refl)

module _ {D : Type 0} where
  module _ (objects : D → ℕ → Option Object) where
    -- what the device has apart from the blocks' allocator
    abbrev pub beside : QueueState D → ℕ → Option Object
    beside q name = outside q.allocator (objects q.device) name

    -- what calls keep of these blocks and of what else the device has
    abbrev pub LeavesQueued : (old new : QueueState D) → List Block → Type 0
    LeavesQueued old new blocks = LeavesList old.allocator (objects old.device) new.allocator (objects new.device) blocks
