use Rattle.vg_worker_tests.proofs.pool.buffer_anew.Given as goal

abbrev pub ghosts-buffer-T-PoolLedger : goal.ghosts-buffer-T-PoolLedger
ghosts-buffer-T-PoolLedger g a = record { total = 300 }

abbrev pub ghosts-buffer-T-Ledger : goal.ghosts-buffer-T-Ledger
ghosts-buffer-T-Ledger g a = record { name = a.taken.name; parts = a.taken.parts }

abbrev pub ghosts-buffer-G-Ledger : goal.ghosts-buffer-G-Ledger
ghosts-buffer-G-Ledger g a = record { name = a.given.name; parts = a.given.parts }
