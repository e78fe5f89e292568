use Rattle.std.proofs.Common.{refl}
use Rattle.gpu_alloc.proofs.laws.agrees_at_first.Goals as goal

pub returns : goal.returns
returns g c = c.requires.agrees _ refl _
