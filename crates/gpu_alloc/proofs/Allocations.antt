-- What follows of an allocation from its decision, whatever its plan.
use Rattle.std.proofs.Common.{◌≡◌, ℕ, List, Option, Result}
use Rattle.std.specs.Prelude.{IfOk, OnErr}
use Rattle.gpu_alloc_types.specs.Device.{Event, Object}
use Rattle.gpu_alloc_types.specs.Properties.{Properties}
use Rattle.gpu_alloc_base.specs.declared.error.AllocationError.{AllocationError}
use Rattle.gpu_alloc_block.specs.Agreement.{Agrees, BlockAgrees, KeepsBlocks}
use Rattle.gpu_alloc_block.specs.Kept.{AddsInHand, LeavesInHand}
use Rattle.gpu_alloc_block.specs.State.{Block, State, total}
use Rattle.gpu_alloc.specs.Allocation.{AllocatesBy, IsGranted, ObjectsAfter, Plan}
use Rattle.gpu_alloc.specs.Atoms.{KeepsAtoms}
use Rattle.gpu_alloc.specs.Owned.{Adds, Leaves}
use Rattle.gpu_alloc.specs.Sound.{IsSound}
use Rattle.gpu_alloc.specs.declared.request.Request.{Request}
use Rattle.gpu_alloc.proofs.Agreed.{allocates_agrees}
use Rattle.gpu_alloc.proofs.BlocksAgreed.{allocates_agrees_block, allocation_keeps_blocks}
use Rattle.gpu_alloc.proofs.Decisions.{allocates_kept, allocates_total}
use Rattle.gpu_alloc.proofs.Granted.{IsPlanFor, allocates_granted}
use Rattle.gpu_alloc.proofs.InHand.{adds_in_hand, allocation_in_hand}
use Rattle.gpu_alloc.proofs.Owning.{allocates_add, allocates_leave}

-- what a caller may know of it
pub record IsAllocation (s : State) (r : Request) (answer : Result Block AllocationError) (new : State) (p q : Properties) (f g : ℕ → Option Object) : Type 0 where
  pub refused : OnErr answer (new ≡ s)
  pub total_is : total new ≡ total s
  pub granted : IfOk answer (IsGranted s r new)
  pub agrees : Agrees new q g
  pub leaves : Leaves s new
  pub added : IfOk answer (Adds s new)
  pub ready : IfOk answer (λ b. BlockAgrees b q g)
  pub keeps : KeepsBlocks s p f new q g
  pub in_hand : LeavesInHand s p f new q g
  pub joins : IfOk answer (AddsInHand s p f new q g)

-- it is known of each that was decided so
pub allocation : (s : State) (r : Request) (w : Plan) → IsPlanFor s r w → IsSound s → KeepsAtoms s → (p q : Properties) (f g : ℕ → Option Object) → Agrees s p f → q ≡ p → (es : List Event) (answer : Result Block AllocationError) (new : State) → IsSound new → AllocatesBy s w es answer new → ObjectsAfter s answer new f g
    → IsAllocation s r answer new p q f g
allocation s r w for sound atoms p q f g agrees properties es answer new sound_now decided objects =
    let refused = allocates_kept s w es answer new decided in
    let granted = allocates_granted s r w for sound atoms es answer new decided in
    let agrees_now = allocates_agrees s p f g agrees q w es answer new properties decided objects in
    let leaves = allocates_leave s w es answer new decided in
    let added = allocates_add s w es r sound answer new sound_now decided granted in
    let ready = allocates_agrees_block s r w es q f g answer new sound_now agrees_now decided granted objects in
    let keeps = allocation_keeps_blocks s p q f g properties answer new objects in
    let in_hand = allocation_in_hand s _ _ agrees _ _ _ answer refused leaves keeps added objects in
    record {
      refused = refused;
      total_is = allocates_total s w es answer new decided;
      granted = granted;
      agrees = agrees_now;
      leaves = leaves;
      added = added;
      ready = ready;
      keeps = keeps;
      in_hand = in_hand;
      joins = adds_in_hand s _ _ _ _ _ r answer in_hand granted ready added;
    }
