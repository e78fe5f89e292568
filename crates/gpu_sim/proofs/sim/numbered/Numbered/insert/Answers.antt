use Rattle.std.proofs.Common.{ap, ◌∙◌}
use Rattle.std.specs.FinMap.{insert}
use Rattle.gpu_alloc_base.proofs.Names.{put_by_name}
use Rattle.gpu_sim.proofs.sim.numbered.Numbered.insert.Goals as goal

pub returns-clause-ok : goal.returns-clause-ok
returns-clause-ok g c =
    put_by_name _ _ c.args.number c.args.value c.in_ok-insert.ensures.updates.0
    ∙ ap (λ m. insert m c.args.number c.args.value) c.self.view_is
