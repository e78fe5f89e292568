use Rattle.gpu_alloc_freelist.proofs.freelist.FreeListAllocator.alloc.Given as goal

-- the ledgers of counts that nobody reads have their blanks' names and parts
abbrev pub ghosts-alloc-L-Ledger : goal.ghosts-alloc-L-Ledger
ghosts-alloc-L-Ledger g a = record { name = a.looks.name; parts = a.looks.parts }

abbrev pub ghosts-alloc-K-Ledger : goal.ghosts-alloc-K-Ledger
ghosts-alloc-K-Ledger g a = record { name = a.splits.name; parts = a.splits.parts }
