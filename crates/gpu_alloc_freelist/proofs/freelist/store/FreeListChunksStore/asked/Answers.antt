use Rattle.gpu_alloc_freelist.proofs.freelist.store.FreeListChunksStore.asked.Goals as goal

pub asked-requires-clause-serves : goal.asked-requires-clause-serves
asked-requires-clause-serves g c = rw (← c.self.view_is) at c.requires.serves.1

pub returns-clause-asked : goal.returns-clause-asked
returns-clause-asked g c = rw (← c.self.view_is) c.asked.ensures.whole
