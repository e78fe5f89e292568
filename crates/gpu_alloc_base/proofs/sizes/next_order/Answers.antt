use Rattle.std.proofs.Common.{arith}
use Rattle.gpu_alloc_base.proofs.PowersOfTwo.{digits_are_least}
use Rattle.gpu_alloc_base.proofs.sizes.next_order.Goals as goal

pub returns-clause-least : goal.returns-clause-least
returns-clause-least c = rw c.saturating_sub.ensures (digits_are_least c.args.n (omega (arith, c.ranges.n.fits)))
