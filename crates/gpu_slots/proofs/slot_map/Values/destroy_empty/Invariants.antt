use Rattle.std.proofs.Common.{◌≡◌, None, All, length}
use Rattle.gpu_slots.proofs.slot_map.Values.destroy_empty.Given as goal

abbrev pub invariant-loop-place : goal.invariant-loop-place
invariant-loop-place g l = All (λ p. p.value ≡ None) l.places.items

abbrev pub decreases-loop-place : goal.decreases-loop-place
decreases-loop-place g l = length l.places.items
