use Rattle.vg_worker_tests.proofs.pool.shared_anew.Given as goal

abbrev pub ghosts-shared-T-PoolLedger : goal.ghosts-shared-T-PoolLedger
ghosts-shared-T-PoolLedger g a = record { total = 300 }

abbrev pub ghosts-shared-T-Ledger : goal.ghosts-shared-T-Ledger
ghosts-shared-T-Ledger g a = record { name = a.taken.name; parts = a.taken.parts }

abbrev pub ghosts-shared-G-Ledger : goal.ghosts-shared-G-Ledger
ghosts-shared-G-Ledger g a = record { name = a.given.name; parts = a.given.parts }
