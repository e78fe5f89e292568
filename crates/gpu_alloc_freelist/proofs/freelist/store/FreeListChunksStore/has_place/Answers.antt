use Rattle.gpu_alloc_freelist.proofs.freelist.store.FreeListChunksStore.has_place.Goals as goal

pub returns-clause-place : goal.returns-clause-place
returns-clause-place g c = rw (← c.self.view_is) c.has_place.ensures
