-- Live blocks in a slab, each under a key: where one stands, and how many are left as one is added or removed.
use Rattle.std.proofs.Common.{◌≡◌, ◌≢◌, ◌==◌, ◌&&◌, ℕ, Bool, false, Some, IsTrue, ◌∙◌, ap}
use Rattle.std.proofs.lemmas.Bool.Decides.{Decides-and, Decides-eqb}
use Rattle.std.specs.Bool.{Decides}
use Rattle.std.specs.FinSet as set
use Rattle.slab.specs.Slab.{Slab, get}
use Rattle.gpu_alloc_base.specs.SlabViews.{HasOneKeyEach}
use Rattle.gpu_alloc_base.specs.declared.free_list_block.Slot.{Slot}
use Rattle.gpu_alloc_base.proofs.SlabViews.{IsInserted, in_set, once_inserted}
use Rattle.gpu_alloc_base.proofs.Slots.{slot_total, slot_exact}
use Rattle.gpu_alloc_freelist.specs.Live.{slots_in}

-- as the code compares them
abbrev pub same_fields : Slot → Slot → Bool
same_fields a b = (a.object == b.object) && ((a.chunk == b.chunk) && ((a.offset == b.offset) && (a.size == b.size)))

pub fields_test : (a b : Slot) → Decides (same_fields a b) (a ≡ b)
fields_test a b =
    let d = Decides-and _ _ (Decides-eqb a.object b.object) (Decides-and _ _ (Decides-eqb a.chunk b.chunk) (Decides-and _ _ (Decides-eqb a.offset b.offset) (Decides-eqb a.size b.size))) in (
      (λ t. let f = d.0 t in λ i. record { object = f.0 i; chunk = f.1.0 i; offset = f.1.1.0 i; size = f.1.1.1 i }),
      (λ e. d.1 (ap (λ (s : Slot). s.object) e, (ap (λ (s : Slot). s.chunk) e, (ap (λ (s : Slot). s.offset) e, ap (λ (s : Slot). s.size) e)))),
    )

-- a live block stands under a key
pub live_stands : (s : Slab Slot) (slot : Slot) → IsTrue (set.contains (slots_in s) slot) → ((key : ℕ) → get s key ≢ Some slot) → ⊥
live_stands s slot live nowhere = let h = (in_set slot_total slot_exact (λ (x : Slot). x) s slot).0 live in nowhere h.0 (h.2 ∙ ap Some h.3)

-- one that is not live stands under none
pub fresh_nowhere : (s : Slab Slot) (slot : Slot) → set.contains (slots_in s) slot ≡ false → (key : ℕ) (there : Slot) → get s key ≡ Some there → there ≢ slot
fresh_nowhere s slot fresh key there at same = let live = (in_set slot_total slot_exact (λ (x : Slot). x) s slot).1 (key, there, at, same) in absurd (cc)

-- a block that was not live goes under one key alone
pub once_kept : (old new : Slab Slot) (key : ℕ) (slot : Slot) → HasOneKeyEach (λ (x : Slot). x) old → set.contains (slots_in old) slot ≡ false → IsInserted old new key slot
    → HasOneKeyEach (λ (x : Slot). x) new
once_kept old new key slot once fresh h = once_inserted (λ (x : Slot). x) old new key slot once (fresh_nowhere old slot fresh) h
