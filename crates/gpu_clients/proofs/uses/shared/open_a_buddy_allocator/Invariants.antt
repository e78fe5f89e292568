use Rattle.gpu_clients.proofs.uses.shared.open_a_buddy_allocator.Given as goal

-- the ledgers of counts that nobody reads have their blanks' names and parts

abbrev pub ghosts-two_uncounted-L-Ledger : goal.ghosts-two_uncounted-L-Ledger
ghosts-two_uncounted-L-Ledger g a = record { name = a.looks.name; parts = a.looks.parts }

abbrev pub ghosts-two_uncounted-K-Ledger : goal.ghosts-two_uncounted-K-Ledger
ghosts-two_uncounted-K-Ledger g a = record { name = a.splits.name; parts = a.splits.parts }

abbrev pub ghosts-two_uncounted-R-Ledger : goal.ghosts-two_uncounted-R-Ledger
ghosts-two_uncounted-R-Ledger g a = record { name = a.releases.name; parts = a.releases.parts }
