-- What the return of a block to a store of any rule leaves, as the whole call says it.
use Rattle.std.proofs.Common.{ℕ, List, Option}
use Rattle.std.proofs.Math.ListN.{set}
use Rattle.gpu_alloc_types.specs.Device.{Asked, Chain, Event, Object}
use Rattle.gpu_alloc_types.specs.Properties.{Properties}
use Rattle.gpu_alloc_base.specs.Accounts.{Account}
use Rattle.gpu_alloc_base.specs.declared.heap.Heap.{Heap}
use Rattle.gpu_alloc_block.specs.Agreement.{Agrees}
use Rattle.gpu_alloc_block.specs.State.{Block}
use Rattle.gpu_alloc_shared.specs.Rule.{Rule}
use Rattle.gpu_alloc.specs.Own.{OwnTable}
use Rattle.gpu_alloc.specs.Release.{Frees, ObjectsFreed}
use Rattle.gpu_alloc.specs.Sound.{IsSound}
use Rattle.gpu_alloc.specs.declared.allocator.stores.TypeStores.{TypeStores}
use Rattle.gpu_alloc.specs.declared.limits.Limits.{Limits}
use Rattle.gpu_alloc.proofs.Linked.{consistent}
use Rattle.gpu_alloc.proofs.Shared.Calls.{Handed, IsReturned, Keep, before, state_with}
use Rattle.gpu_alloc.proofs.Shared.Stores.{Named, put}
use Rattle.gpu_alloc.proofs.Soundness.{sound_is}

module _ {T A B : Type 0} {r : Rule T A B} {n : Named r} {M X : Type 0} {l : Limits X} {heaps : List Heap} {ss : List (TypeStores M X)} {own : OwnTable} {remaining i j : ℕ} {e : TypeStores M X} {x : T} {heap : Heap} (h : Handed n l heaps ss own remaining i j e x heap) where
  -- all that is known of it
  pub record IsPutBack {D : Type 0} (step : D → Event → D → Type 0) (start finish : D) (block : Block) (after : Account T) (q : Properties) (old new : ℕ → Option Object) : Type 0 where
    pub kept : Keep l (set heaps j after.heap) (put n ss i e after.allocator) own after.remaining
    pub freed : Asked step start finish (λ es. Frees (before h) block es (state_with h after))
    pub objects : ObjectsFreed (before h) block old new
    pub agrees : Agrees (state_with h after) q new
    pub sound : IsSound (state_with h after)

  -- by what the store's side says
  pub put_back : {D : Type 0} {step : D → Event → D → Type 0} {start finish : D} {block : Block} {after : Account T} {es : List Event} {q : Properties} {old new : ℕ → Option Object} → Chain step start es finish → IsReturned h block after es q old new → IsPutBack step start finish block after q old new
  put_back {es = es} chain is = record { kept = is.kept; freed = (es, chain, is.frees); objects = is.freed; agrees = is.agreed; sound = sound_is l _ _ _ _ (consistent _ _ _ _ _ _ _ is.kept) }
