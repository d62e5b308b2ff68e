use Rattle.vg_worker_tests.proofs.chains.chained_anew.Given as goal

abbrev pub ghosts-chained-T-PoolLedger : goal.ghosts-chained-T-PoolLedger
ghosts-chained-T-PoolLedger g a = record { total = 300 }

abbrev pub ghosts-chained-T-Ledger : goal.ghosts-chained-T-Ledger
ghosts-chained-T-Ledger g a = record { name = a.taken.name; parts = a.taken.parts }

abbrev pub ghosts-chained-G-Ledger : goal.ghosts-chained-G-Ledger
ghosts-chained-G-Ledger g a = record { name = a.given.name; parts = a.given.parts }
