use Rattle.std.proofs.Common.{ap, ◌∙◌}
use Rattle.std.specs.FinMap.{remove}
use Rattle.gpu_alloc_base.proofs.Names.{removed_by_name}
use Rattle.gpu_sim.proofs.sim.numbered.Numbered.remove.Goals as goal

pub returns : goal.returns
returns g c =
    removed_by_name _ _ c.args.number c.swap_remove.ensures.updates.0
    ∙ ap (λ m. remove m c.args.number) c.self.view_is
