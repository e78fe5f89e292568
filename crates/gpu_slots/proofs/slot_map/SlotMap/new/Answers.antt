use Rattle.std.proofs.Common.{ap, map}
use Rattle.gpu_slots.specs.Places.{live_in}
use Rattle.gpu_slots.proofs.Taken.{has_none, none_given}
use Rattle.gpu_slots.proofs.Sound.{sound_new}
use Rattle.gpu_slots.proofs.slot_map.SlotMap.new.Goals as goal

pub invariant_of-result : goal.invariant_of-result
invariant_of-result g c = rw (c.new.ensures.items, c.new-2.ensures.items) (sound_new _)

pub returns-clause-none : goal.returns-clause-none
returns-clause-none g c = has_none _ (ap live_in c.new.ensures.items)

pub returns-clause-unused : goal.returns-clause-unused
returns-clause-unused g c = none_given (record { live = live_in c.new.result.items; generations = map (λ p. p.generation) c.new.result.items; room = 0 }) (ap live_in c.new.ensures.items) (ap (map (λ p. p.generation)) c.new.ensures.items)
