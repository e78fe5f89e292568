use Rattle.std.proofs.Common.{ap}
use Rattle.gpu_alloc_freelist.proofs.FiledRows.{filed_roomier}
use Rattle.gpu_alloc_freelist.proofs.freelist.chunks.Chunks.reserve.Goals as goal

pub invariant_of-self : goal.invariant_of-self
invariant_of-self g c = filed_roomier c.self.inside.rows _ _ (ap (λ s. s.slots) c.reserve.ensures.rest_kept) c.self.invariant

pub invariant_of-self-2 : goal.invariant_of-self-2
invariant_of-self-2 g c = rw c.reserve-2.ensures.items (filed_roomier c.self.inside.rows _ _ (ap (λ s. s.slots) c.reserve.ensures.rest_kept) c.self.invariant)
