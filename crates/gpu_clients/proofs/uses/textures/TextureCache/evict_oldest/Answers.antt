use Rattle.gpu_alloc.proofs.UnderKeys.{owned}
use Rattle.gpu_clients.proofs.uses.textures.TextureCache.evict_oldest.Goals as goal

pub dealloc-requires-clause-owned : goal.dealloc-requires-clause-owned
dealloc-requires-clause-owned g c = owned c.self.invariant c.in-Some.ensures.taken
