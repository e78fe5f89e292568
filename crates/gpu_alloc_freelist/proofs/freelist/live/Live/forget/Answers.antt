use Rattle.std.proofs.Common.{◌≡◌}
use Rattle.std.specs.FinSet as set
use Rattle.gpu_alloc_base.specs.declared.free_list_block.Slot.{Slot}
use Rattle.gpu_alloc_base.proofs.SlabViews.{IsRemoved, set_removed}
use Rattle.gpu_alloc_base.proofs.Slots.{slot_total, slot_exact}
use Rattle.gpu_alloc_freelist.specs.Live.{slots_in}
use Rattle.gpu_alloc_freelist.proofs.LiveBlocks.{live_stands}
use Rattle.gpu_alloc_freelist.proofs.freelist.live.Live.forget.Given.{Over}
use Rattle.gpu_alloc_freelist.proofs.freelist.live.Live.forget.Goals as goal

pub unreachable-requires : goal.unreachable-requires
unreachable-requires g c = live_stands c.self.inside.slots c.args.slot (rw (← c.self.view_is) at c.requires.live) c.in-None.ensures

removed : (g : Over) (c : goal.After-remove g) → IsRemoved c.self.inside.slots c.remove.new.self c.in-Some.found c.args.slot
removed g c = record { was = c.in-Some.ensures; updates = c.remove.ensures.updates }

fewer : (g : Over) (c : goal.After-remove g) → slots_in c.remove.new.self ≡ set.remove (slots_in c.self.inside.slots) c.args.slot
fewer g c = set_removed slot_total slot_exact (λ (x : Slot). x) _ _ _ _ c.self.invariant (removed g c)

pub returns-clause-slots : goal.returns-clause-slots
returns-clause-slots g c = rw (← c.self.view_is) (fewer g c)
