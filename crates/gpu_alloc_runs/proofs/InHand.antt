-- What the calls of a store leave of the blocks in hand.
use Rattle.std.proofs.Common.{◌≡◌, ℕ, ◌<◌, sym, ◌∙◌, ap, arith}
use Rattle.gpu_alloc_base.specs.declared.free_list_block.Slot.{Slot}
use Rattle.gpu_alloc_base.proofs.InHand.{grant_adds, grant_leaves, leaves_same, return_removes}
use Rattle.gpu_alloc_base.proofs.Slots.{slot_exact, slot_total}
use Rattle.gpu_alloc_runs.specs.Space.{Adds, FitSpace, IsFitting, IsLiveSlot, IsSoundFitSpace, IsUnheld, Leaves, Removes, bytes_of, with_chunk, with_slot, without_chunk, without_slot}

-- a block in free bytes is another than each that was live
pub fit_adds : (s new : FitSpace) (size alignment : ℕ) (slot : Slot) → IsSoundFitSpace s → 0 < size → IsFitting s size alignment slot → new ≡ with_slot s slot → Adds s new slot
fit_adds s new size alignment slot sound some fit is =
    grant_adds slot_total slot_exact bytes_of s.live slot new.live (ap (λ (x : FitSpace). x.live) is) (omega (arith, some, fit.exact))
    (λ q live same at in_q in_slot.
    let lies = sound.inside q live in
    let chunk = sound.one_object q.chunk slot.chunk lies.chunk fit.chunk lies.held fit.held (sym lies.object ∙ same ∙ fit.object) in
    (fit.free at in_slot.from in_slot.to).unused q live chunk in_q)

-- so is one in a chunk of an object that was not held
pub first_adds : (s new : FitSpace) (size whole : ℕ) (slot : Slot) → IsSoundFitSpace s → 0 < size → slot.size ≡ size → IsUnheld s slot.object → new ≡ with_slot (with_chunk s slot whole) slot → Adds s new slot
first_adds s new size whole slot sound some exact unheld is =
    grant_adds slot_total slot_exact bytes_of s.live slot new.live (ap (λ (x : FitSpace). x.live) is) (omega (arith, some, exact))
    (λ q live same at in_q in_slot.
    let lies = sound.inside q live in
    unheld q.chunk lies.chunk lies.held (sym lies.object ∙ same))

-- and each of those is live still
pub fit_leaves : (s new : FitSpace) (slot : Slot) → new ≡ with_slot s slot → Leaves s new
fit_leaves s new slot is = grant_leaves slot_total slot_exact bytes_of s.live slot new.live (ap (λ (x : FitSpace). x.live) is)

pub first_leaves : (s new : FitSpace) (whole : ℕ) (slot : Slot) → new ≡ with_slot (with_chunk s slot whole) slot → Leaves s new
first_leaves s new whole slot is = grant_leaves slot_total slot_exact bytes_of s.live slot new.live (ap (λ (x : FitSpace). x.live) is)

pub same_leaves : (s new : FitSpace) → new ≡ s → Leaves s new
same_leaves s new is = leaves_same bytes_of s.live new.live (ap (λ (x : FitSpace). x.live) is)

-- a block is removed, and no other, with its chunk or without
pub block_removes : (s new : FitSpace) (slot : Slot) → IsLiveSlot s slot → new ≡ without_slot s slot → Removes s slot new
block_removes s new slot live is = return_removes slot_total slot_exact bytes_of s.live slot new.live (ap (λ (x : FitSpace). x.live) is) live

pub chunk_removes : (s new : FitSpace) (slot : Slot) (chunk : ℕ) → IsLiveSlot s slot → new ≡ without_chunk (without_slot s slot) chunk → Removes s slot new
chunk_removes s new slot chunk live is = return_removes slot_total slot_exact bytes_of s.live slot new.live (ap (λ (x : FitSpace). x.live) is) live
