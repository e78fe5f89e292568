use Rattle.gpu_alloc_freelist.proofs.freelist.FreeListAllocator.dealloc.Given as goal

-- the ledger of counts that nobody reads has the blank's name and parts
abbrev pub ghosts-dealloc : goal.ghosts-dealloc
ghosts-dealloc g a = record { name = a.steps.name; parts = a.steps.parts }
