use Rattle.gpu_clients.proofs.staging.StagingPool.buffer.Goals as goal

pub returns-clause-apart : goal.returns-clause-apart
returns-clause-apart g c = rw (← c.self.view_is) c.keeps_blocks.ensures.kept.two
