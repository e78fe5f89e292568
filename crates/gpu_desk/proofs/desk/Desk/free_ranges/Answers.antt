use Rattle.gpu_desk.proofs.desk.Desk.free_ranges.Goals as goal

pub returns-in-Ok-clause-told : goal.returns-in-Ok-clause-told
returns-in-Ok-clause-told c = rw (← c.self.view_is) (record { exact = c.in-Ok.ensures.exact; order = c.in-Ok.ensures.order })
