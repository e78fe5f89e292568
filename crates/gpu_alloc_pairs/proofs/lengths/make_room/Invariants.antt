use Rattle.std.proofs.Common.{◌≡◌, length}
use Rattle.gpu_alloc_pairs.specs.Lengths.{HasRoomsFor, HasSameSlots}
use Rattle.gpu_alloc_pairs.proofs.lengths.make_room.Given as goal

-- room was made for that many lengths
abbrev pub invariant-loop-n : goal.invariant-loop-n
invariant-loop-n g l = record {
  kept : HasSameSlots l.fn.lengths.items l.lengths.items;
  count : length l.lengths.items ≡ length l.fn.lengths.items;
  rooms : HasRoomsFor l.lengths.items l.low l.n;
}
