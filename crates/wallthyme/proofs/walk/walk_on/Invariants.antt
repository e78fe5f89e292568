-- The blocks before the index are written, and the walk goes on after the last of them. The others stay as they were.
use Rattle.std.proofs.Common.{◌≡◌, drop, take}
use Rattle.wallthyme.specs.Walk.{AreNext, key_behind}
use Rattle.wallthyme.proofs.walk.walk_on.Given as goal

abbrev pub invariant-loop-count : goal.invariant-loop-count
invariant-loop-count l = record {
  told : AreNext l.desk l.fn.after (take l.count l.blocks);
  last : l.last ≡ key_behind l.fn.after (take l.count l.blocks);
  rest : drop l.count l.blocks ≡ drop l.count l.fn.blocks;
}
