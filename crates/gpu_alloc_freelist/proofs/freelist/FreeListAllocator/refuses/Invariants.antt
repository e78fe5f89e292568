use Rattle.gpu_alloc_freelist.proofs.freelist.FreeListAllocator.refuses.Given as goal

-- the ledger of counts that nobody reads has the blank's name and parts
abbrev pub ghosts-refuses : goal.ghosts-refuses
ghosts-refuses g a = record { name = a.looks.name; parts = a.looks.parts }
