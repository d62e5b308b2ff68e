use Rattle.vg_worker_tests.proofs.pool.unsettled_anew.Given as goal

abbrev pub ghosts-unsettled-T-PoolLedger : goal.ghosts-unsettled-T-PoolLedger
ghosts-unsettled-T-PoolLedger g a = record { total = 300 }

abbrev pub ghosts-unsettled-T-Ledger : goal.ghosts-unsettled-T-Ledger
ghosts-unsettled-T-Ledger g a = record { name = a.taken.name; parts = a.taken.parts }

abbrev pub ghosts-unsettled-G-Ledger : goal.ghosts-unsettled-G-Ledger
ghosts-unsettled-G-Ledger g a = record { name = a.given.name; parts = a.given.parts }
