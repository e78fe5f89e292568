use Rattle.std.proofs.Common.{◌≡◌, ◌≤◌, length, vec_capacity}
use Rattle.gpu_alloc_pairs.proofs.Empties.{AreEmpty}
use Rattle.gpu_alloc_pairs.proofs.pairs.Pairs.new.Given as goal

-- that many lengths are there, of no pair, in room for all
abbrev pub invariant-loop : goal.invariant-loop
invariant-loop g l = record {
  count : length l.lengths.items ≡ l.counter;
  empty : AreEmpty l.lengths.items;
  room : 63 ≤ vec_capacity l.lengths;
}
