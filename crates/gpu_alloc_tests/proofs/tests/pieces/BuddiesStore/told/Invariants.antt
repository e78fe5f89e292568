use Rattle.gpu_alloc_tests.proofs.tests.pieces.BuddiesStore.told.Given as goal

-- the ledger of counts that nobody reads has the blank's name and parts
abbrev pub ghosts-told_uncounted : goal.ghosts-told_uncounted
ghosts-told_uncounted g a = record { name = a.blank.name; parts = a.blank.parts }
