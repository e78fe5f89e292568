use Rattle.gpu_clients.proofs.frames.queue.Queue.new.Goals as goal

pub invariant_of-result : goal.invariant_of-result
invariant_of-result g c =
    rw c.new-in-Ok.ensures.items (record { agrees = c.agrees_at_first.ensures; owned = tt; ready = tt; count = c.in-Ok.ensures.empty.live })

pub agrees_at_first-requires : goal.agrees_at_first-requires
agrees_at_first-requires g c = rw c.requires.same c.in-Ok.ensures.empty
