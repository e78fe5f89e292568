use Rattle.std.proofs.Common.{◌≡◌, ◌≤◌, ◌^◌, length}
use Rattle.gpu_slots.specs.Places.{live_in}
use Rattle.gpu_slots.proofs.slot_map.Values.next.Given as goal

abbrev pub invariant-loop-place : goal.invariant-loop-place
invariant-loop-place g l = record {
  few : length l.self-inside.places.items ≤ 2 ^ 32;
  live : live_in l.self-inside.places.items ≡ l.fn.self;
}

abbrev pub decreases-loop-place : goal.decreases-loop-place
decreases-loop-place g l = length l.self-inside.places.items
