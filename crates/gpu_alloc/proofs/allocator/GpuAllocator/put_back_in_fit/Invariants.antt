use Rattle.gpu_alloc.proofs.allocator.GpuAllocator.put_back_in_fit.Given as goal

-- the ledger of counts that nobody reads has the blank's name and parts
abbrev pub ghosts-dealloc_fit : goal.ghosts-dealloc_fit
ghosts-dealloc_fit g a = record { name = a.blank.name; parts = a.blank.parts }
