use Rattle.std.proofs.Common.{refl, arith}
use Rattle.gpu_clients.proofs.resources.ResourceManager.new.Goals as goal

pub with_granularity-requires-clause-granularity : goal.with_granularity-requires-clause-granularity
unfolding lib.Count.ones
with_granularity-requires-clause-granularity g c = record { power = refl; bound = omega arith }

pub returns-clause-granularity : goal.returns-clause-granularity
returns-clause-granularity g c = c.with_granularity.ensures.granularity
