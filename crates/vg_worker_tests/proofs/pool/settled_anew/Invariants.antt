use Rattle.vg_worker_tests.proofs.pool.settled_anew.Given as goal

abbrev pub ghosts-settled-T-PoolLedger : goal.ghosts-settled-T-PoolLedger
ghosts-settled-T-PoolLedger g a = record { total = 300 }

abbrev pub ghosts-settled-T-Ledger : goal.ghosts-settled-T-Ledger
ghosts-settled-T-Ledger g a = record { name = a.taken.name; parts = a.taken.parts }

abbrev pub ghosts-settled-G-Ledger : goal.ghosts-settled-G-Ledger
ghosts-settled-G-Ledger g a = record { name = a.given.name; parts = a.given.parts }
