use Rattle.gpu_slots.proofs.Walk.{are_placed}
use Rattle.gpu_slots.proofs.slot_map.SlotMap.keeps_places.Goals as goal

pub returns : goal.returns
returns g c = rw (← c.self.view_is) (are_placed _ c.self.invariant.few _)
