use Rattle.gpu_alloc.proofs.allocator.GpuAllocator.try_fit.Given as goal

-- The ledger of counts that nobody reads has the blank's name and parts.

abbrev pub ghosts-alloc_fit : goal.ghosts-alloc_fit
ghosts-alloc_fit g a = record { name = a.blank.name; parts = a.blank.parts }
