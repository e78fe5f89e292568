use Rattle.gpu_desk.proofs.Losing.{read_keeps_names, reading}
use Rattle.gpu_desk.proofs.Kept.{same_objects}
use Rattle.gpu_desk.proofs.desk.Desk.next_gone.Goals as goal

pub returns-clause-lost : goal.returns-clause-lost
returns-clause-lost c =
    let took = c.take_gone-name.ensures in
    rw (← c.self.view_is) (reading _ _ c.take_gone-name.result (same_objects c.self.inside.device c.take_gone-name.new.self took.offers took.objects) took.taken took.none)

pub returns-clause-names : goal.returns-clause-names
returns-clause-names c =
    let took = c.take_gone-name.ensures in
    rw (← c.self.view_is) (read_keeps_names c.self.inside.device.held c.take_gone-name.new.self.held c.take_gone-name.result took.objects took.last_name took.taken took.none)
