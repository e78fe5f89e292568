use Rattle.gpu_alloc_tests.proofs.tests.pieces.BuddiesStore.ask.Given as goal

-- The ledgers of counts that nobody reads have the blanks' names and parts.

abbrev pub ghosts-ask_uncounted-L-Ledger : goal.ghosts-ask_uncounted-L-Ledger
ghosts-ask_uncounted-L-Ledger g a = record { name = a.looks.name; parts = a.looks.parts }

abbrev pub ghosts-ask_uncounted-K-Ledger : goal.ghosts-ask_uncounted-K-Ledger
ghosts-ask_uncounted-K-Ledger g a = record { name = a.splits.name; parts = a.splits.parts }
