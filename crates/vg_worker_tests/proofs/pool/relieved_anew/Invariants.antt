use Rattle.vg_worker_tests.proofs.pool.relieved_anew.Given as goal

abbrev pub ghosts-relieved-T-PoolLedger : goal.ghosts-relieved-T-PoolLedger
ghosts-relieved-T-PoolLedger g a = record { total = 600 }

abbrev pub ghosts-relieved-T-Ledger : goal.ghosts-relieved-T-Ledger
ghosts-relieved-T-Ledger g a = record { name = a.taken.name; parts = a.taken.parts }

abbrev pub ghosts-relieved-G-Ledger : goal.ghosts-relieved-G-Ledger
ghosts-relieved-G-Ledger g a = record { name = a.given.name; parts = a.given.parts }
