use Rattle.std.proofs.Common.{ap, sym, ◌∙◌}
use Rattle.std.specs.FinMap.{get}
use Rattle.gpu_alloc_base.proofs.Names.{get_entries}
use Rattle.gpu_sim.proofs.sim.numbered.Numbered.get.Goals as goal

pub returns : goal.returns
returns g c =
    c.get.ensures.value ∙ sym (ap (λ m. get m c.args.number) (sym c.self.view_is) ∙ get_entries _ c.args.number)
