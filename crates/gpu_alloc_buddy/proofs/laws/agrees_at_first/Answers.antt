use Rattle.std.proofs.Common.{arith}
use Rattle.gpu_alloc_buddy.proofs.laws.agrees_at_first.Goals as goal

pub returns-clause-agrees : goal.returns-clause-agrees
returns-clause-agrees g c = let nothing = c.requires.nothing in rw (nothing.0, nothing.1) (nothing.2.agrees _ c.requires.offers _)

pub returns-clause-counted : goal.returns-clause-counted
returns-clause-counted g c = c.requires.nothing.2.counted c.args.heap.now c.args.allocations_remains (omega (arith, c.ranges.allocations_remains.fits))
