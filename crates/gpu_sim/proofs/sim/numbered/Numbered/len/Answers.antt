use Rattle.std.proofs.Common.{ap, sym, ◌∙◌}
use Rattle.std.specs.FinMap.{len}
use Rattle.gpu_sim.proofs.NumberedEntries.{len-entries}
use Rattle.gpu_sim.proofs.sim.numbered.Numbered.len.Goals as goal

pub returns : goal.returns
returns g c = c.len.ensures.len ∙ sym (ap len (sym c.self.view_is) ∙ len-entries _ c.len.ensures.unique)
