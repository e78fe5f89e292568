-- The ranges before the index are written. The others stay as they were.
use Rattle.std.proofs.Common.{◌≡◌, ◌≤◌, drop, length, take}
use Rattle.std.specs.Prelude.{map}
use Rattle.wallthyme.specs.Layout.{free_range_of}
use Rattle.wallthyme.proofs.objects.tell.Given as goal

abbrev pub invariant-loop-index : goal.invariant-loop-index
invariant-loop-index l = record {
  told : take l.index l.ranges ≡ map free_range_of (take l.index l.found);
  fits : l.index ≤ length l.found;
  rest : drop l.index l.ranges ≡ drop l.index l.fn.ranges;
}
