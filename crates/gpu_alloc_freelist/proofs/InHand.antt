-- What the calls of a free list's allocator leave of the blocks in hand.
use Rattle.std.proofs.Common.{◌≡◌, ℕ, ◌≤◌, false, List, refl, ap, arith}
use Rattle.gpu_alloc_types.specs.Device.{Event}
use Rattle.gpu_alloc_base.specs.Accounts.{Account}
use Rattle.gpu_alloc_base.proofs.InHand.{leaves_same}
use Rattle.gpu_alloc_shared.proofs.Sized.{settings_kept}
use Rattle.gpu_alloc_freelist.specs.FreeList.{MayGo}
use Rattle.gpu_alloc_freelist.specs.FreeListAllocator.{KeepsSettings, Leaves, LeavesNoRest, Releases, bytes_of}
use Rattle.gpu_alloc_freelist.specs.FreeListState.{FreeListState}
use Rattle.gpu_alloc_freelist.proofs.ListInHand.{none_held}

-- Chunks are released.

module _ (a new : Account FreeListState) (gone : List ℕ) (es : List Event) (lets : Releases a gone es new) where
  pub live_same : new.allocator.space.live ≡ a.allocator.space.live
  live_same = ap (λ (x : Account FreeListState). x.allocator.space.live) lets.1

  pub releases_leave : Leaves a.allocator new.allocator
  releases_leave = leaves_same bytes_of a.allocator.space.live new.allocator.space.live live_same

  pub releases_keep : KeepsSettings a.allocator new.allocator
  releases_keep = rw (lets.1) (settings_kept a.allocator _ _)

  -- the ledger does not grow
  pub releases_used : new.heap.used ≤ a.heap.used
  releases_used = rw (lets.1) (omega arith)

  -- no chunk is left, where no block is live and none may go
  pub releases_all : ((number : ℕ) → MayGo new.allocator.space false number → ⊥) → LeavesNoRest a.allocator new.allocator
  releases_all none = (live_same, record { held = λ empty. none_held new.allocator.space false none refl (rw live_same empty) })
