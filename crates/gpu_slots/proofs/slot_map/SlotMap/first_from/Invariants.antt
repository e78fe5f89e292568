use Rattle.std.proofs.Common.{◌≡◌, ℕ, ◌-◌, ◌<◌, ◌≤◌, None, length}
use Rattle.gpu_slots.specs.Places.{place_at}
use Rattle.gpu_slots.proofs.slot_map.SlotMap.first_from.Given as goal

abbrev pub invariant-loop-at : goal.invariant-loop-at
invariant-loop-at g l = record {
  from : l.initial.place ≤ l.at;
  empty : (j : ℕ) → l.initial.place ≤ j → j < l.at → (place_at l.self-inside.places.items j).value ≡ None;
}

abbrev pub decreases-loop-at : goal.decreases-loop-at
decreases-loop-at g l = length l.self-inside.places.items - l.at
