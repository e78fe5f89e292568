-- Nothing is held by a desk that is empty.
use Rattle.std.proofs.Common.{arith}
use Rattle.std.specs.FinMap.{len-empty}
use Rattle.wallthyme.proofs.opening.boxed.Goals as goal

pub close-requires-clause-blocks : goal.close-requires-clause-blocks
close-requires-clause-blocks c = grind (arith, len-empty)

pub close-requires-clause-held : goal.close-requires-clause-held
close-requires-clause-held c = grind (arith, len-empty)
