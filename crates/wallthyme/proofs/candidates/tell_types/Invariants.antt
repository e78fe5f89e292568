-- The memory types before the index are written. The others stay as they were.
use Rattle.std.proofs.Common.{◌≡◌, ◌≤◌, drop, length, take}
use Rattle.wallthyme.proofs.candidates.tell_types.Given as goal

abbrev pub invariant-loop-index : goal.invariant-loop-index
invariant-loop-index l = record {
  told : take l.index l.types ≡ take l.index l.found;
  fits : l.index ≤ length l.found;
  rest : drop l.index l.types ≡ drop l.index l.fn.types;
}
