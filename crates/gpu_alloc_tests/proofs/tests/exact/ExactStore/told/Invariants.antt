use Rattle.gpu_alloc_tests.proofs.tests.exact.ExactStore.told.Given as goal

-- the ledger of counts that nobody reads has the blank's name and parts
abbrev pub ghosts-refusal : goal.ghosts-refusal
ghosts-refusal g a = record { name = a.blank.name; parts = a.blank.parts }
