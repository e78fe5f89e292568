use Rattle.std.proofs.Common.{◌≡◌, take}
use Rattle.gpu_alloc_pairs.specs.Halves.{free_pieces}
use Rattle.gpu_alloc_pairs.proofs.lengths.free_pieces.Given as goal

-- the free pieces of that many lengths were listed
abbrev pub invariant-loop-n : goal.invariant-loop-n
invariant-loop-n g l = l.pieces.items ≡ free_pieces (take l.n l.lengths.items)
