use Rattle.std.proofs.Common.{◌≡◌, ◌↔◌, ◌≢◌, ℕ, Option, Some, None, IsTrue, MatchOption, is_some, refl}
use Rattle.std.specs.FinSet as set
use Rattle.slab.specs.Slab.{Slab, get}
use Rattle.gpu_alloc_base.specs.declared.free_list_block.Slot.{Slot}
use Rattle.gpu_alloc_base.proofs.SlabViews.{in_set}
use Rattle.gpu_alloc_base.proofs.Slots.{slot_total, slot_exact}
use Rattle.gpu_alloc_freelist.specs.Live.{slots_in}
use Rattle.gpu_alloc_freelist.proofs.LiveBlocks.{live_stands}
use Rattle.gpu_alloc_freelist.proofs.freelist.live.Live.has.Goals as goal

stands : (s : Slab Slot) (slot : Slot) (found : Option ℕ) → MatchOption found ((key : ℕ) → get s key ≢ Some slot) (λ key. get s key ≡ Some slot) → IsTrue (is_some found) ↔ IsTrue (set.contains (slots_in s) slot)
stands s slot None nowhere = (λ no. absurd (cc), λ live. absurd (live_stands s slot live nowhere))
stands s slot (Some key) at = (λ yes. (in_set slot_total slot_exact (λ (x : Slot). x) s slot).1 (key, slot, at, refl), λ live. refl)

pub returns : goal.returns
returns g c = rw (← c.self.view_is, c.is_some.ensures) (stands c.self.inside.slots c.args.slot c.key_of.result c.key_of.ensures)
