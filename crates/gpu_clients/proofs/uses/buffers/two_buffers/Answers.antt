use Rattle.std.proofs.Common.{[], ◌∷◌}
use Rattle.gpu_clients.proofs.uses.buffers.two_buffers.Goals as goal

-- both are in hand, and of those the first goes
pub dealloc-requires-in-Ok-clause-owned : goal.dealloc-requires-in-Ok-clause-owned
dealloc-requires-in-Ok-clause-owned g c =
    (c.dealloc.ensures.removed.first (c.in-Ok.indices ∷ []) (c.in-Ok.ensures.added.all (c.in_ok-vertices.vertices ∷ []) (c.in_ok-vertices.ensures.added.all [] tt))).0
