use Rattle.gpu_alloc_tests.proofs.tests.exact.ExactStore.dealloc.Given as goal

-- the ledger of counts that nobody reads has the blank's name and parts
abbrev pub ghosts-put_back : goal.ghosts-put_back
ghosts-put_back g a = record { name = a.blank.name; parts = a.blank.parts }
