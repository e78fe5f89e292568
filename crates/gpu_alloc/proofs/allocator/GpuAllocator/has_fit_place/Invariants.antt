use Rattle.gpu_alloc.proofs.allocator.GpuAllocator.has_fit_place.Given as goal

-- The ledger of counts that nobody reads has the blank's name and parts.

abbrev pub ghosts-refuses_fit : goal.ghosts-refuses_fit
ghosts-refuses_fit g a = record { name = a.blank.name; parts = a.blank.parts }
