use Rattle.gpu_clients.proofs.staging.StagingPool.download.Goals as goal

pub read-requires : goal.read-requires
read-requires g c = rw c.self.view_is c.in_ok-has_range.ensures.inside
