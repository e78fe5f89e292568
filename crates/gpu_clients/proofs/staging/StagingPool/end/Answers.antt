use Rattle.gpu_clients.proofs.staging.StagingPool.end.Goals as goal

pub returns-clause-beside : goal.returns-clause-beside
returns-clause-beside g c = rw (← c.self.view_is) c.end.ensures.beside
