use Rattle.gpu_alloc_tests.proofs.tests.exact.ExactStore.ask.Given as goal

-- the ledger of counts that nobody reads has the blank's name and parts
abbrev pub ghosts-grant : goal.ghosts-grant
ghosts-grant g a = record { name = a.blank.name; parts = a.blank.parts }
