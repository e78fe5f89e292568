use Rattle.gpu_alloc_fit.proofs.fit.FitAllocator.alloc.Given as goal

-- the ledger of splits, of which nobody reads the counter, has the blank's name and parts
abbrev pub ghosts-alloc : goal.ghosts-alloc
ghosts-alloc g a = record { name = a.splits.name; parts = a.splits.parts }
