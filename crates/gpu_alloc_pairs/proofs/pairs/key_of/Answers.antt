use Rattle.std.proofs.Common.{sym}
use Rattle.gpu_alloc_pairs.proofs.pairs.key_of.Goals as goal

pub is_of-requires-clause-placed : goal.is_of-requires-clause-placed
is_of-requires-clause-placed g c = c.requires.placed c.args.key c.in-Some.pair.now (sym c.in-Some.ensures)
