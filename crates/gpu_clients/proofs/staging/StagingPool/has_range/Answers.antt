use Rattle.std.proofs.Common.{arith, sym}
use Rattle.gpu_clients.proofs.staging.StagingPool.has_range.Goals as goal

pub returns-clause-inside : goal.returns-clause-inside
returns-clause-inside g c = rw (← c.self.view_is) (c.in-Some.buffer.now, sym c.in-Some.ensures, omega arith)
