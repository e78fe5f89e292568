use Rattle.gpu_alloc.proofs.allocator.GpuAllocator.has_buddy_place.Given as goal

-- The ledger of counts that nobody reads has the blank's name and parts.

abbrev pub ghosts-refuses : goal.ghosts-refuses
ghosts-refuses g a = record { name = a.blank.name; parts = a.blank.parts }
