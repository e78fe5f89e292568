use Rattle.gpu_clients.proofs.frames.FramePlanner.end.Goals as goal

pub returns : goal.returns
returns g c = rw (← c.self.view_is) (record { beside = c.end.ensures })
