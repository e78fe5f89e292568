use Rattle.std.proofs.Common.{◌≡◌, false, ap, ◌∙◌}
use Rattle.std.specs.FinSet as set
use Rattle.gpu_alloc_base.specs.declared.free_list_block.Slot.{Slot}
use Rattle.gpu_alloc_base.proofs.SlabViews.{IsInserted, set_inserted}
use Rattle.gpu_alloc_base.proofs.Slots.{slot_total, slot_exact}
use Rattle.gpu_alloc_freelist.specs.Live.{LiveBlocks, slots_in}
use Rattle.gpu_alloc_freelist.proofs.LiveBlocks.{once_kept}
use Rattle.gpu_alloc_freelist.proofs.freelist.live.Live.keep.Given.{Over}
use Rattle.gpu_alloc_freelist.proofs.freelist.live.Live.keep.Goals as goal

inserted : (g : Over) (c : goal.After-insert_reserved g) → IsInserted c.self.inside.slots c.insert_reserved.new.self c.insert_reserved.result c.args.slot
inserted g c = record { was_vacant = c.insert_reserved.ensures.was_vacant; updates = c.insert_reserved.ensures.updates }

fresh : (g : Over) (c : goal.After-insert_reserved g) → set.contains (slots_in c.self.inside.slots) c.args.slot ≡ false
fresh g c = ap (λ (l : LiveBlocks). set.contains l.slots c.args.slot) c.self.view_is ∙ c.requires.fresh

more : (g : Over) (c : goal.After-insert_reserved g) → slots_in c.insert_reserved.new.self ≡ set.insert (slots_in c.self.inside.slots) c.args.slot
more g c = set_inserted slot_total slot_exact (λ (x : Slot). x) _ _ _ _ (inserted g c)

pub invariant_of-self : goal.invariant_of-self
invariant_of-self g c = once_kept _ _ _ _ c.self.invariant (fresh g c) (inserted g c)

pub returns-clause-slots : goal.returns-clause-slots
returns-clause-slots g c = rw (← c.self.view_is) (more g c)
