use Rattle.gpu_alloc.proofs.allocator.GpuAllocator.put_back_in_buddy.Given as goal

-- the ledger of counts that nobody reads has the blank's name and parts
abbrev pub ghosts-dealloc : goal.ghosts-dealloc
ghosts-dealloc g a = record { name = a.blank.name; parts = a.blank.parts }
