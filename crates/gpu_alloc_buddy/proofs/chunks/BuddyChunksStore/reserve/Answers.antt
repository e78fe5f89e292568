use Rattle.std.proofs.lemmas.Result.{on_ok_weaker}
use Rattle.gpu_alloc_buddy.proofs.chunks.BuddyChunksStore.reserve.Goals as goal

pub returns-clause-room : goal.returns-clause-room
returns-clause-room g c =
    on_ok_weaker c.reserve.result (λ room. (c.chunk_order-chunk_order.result, rw (← c.self.view_is) at c.chunk_order-chunk_order.ensures.is, room)) c.reserve.ensures.room
