use Rattle.vg_worker_tests.proofs.nodes.buffer.Given as goal

abbrev pub ghosts-taken_out-T-PoolLedger : goal.ghosts-taken_out-T-PoolLedger
ghosts-taken_out-T-PoolLedger g a = record { total = 1 }

abbrev pub ghosts-taken_out-T-Ledger : goal.ghosts-taken_out-T-Ledger
ghosts-taken_out-T-Ledger g a = record { name = a.taken.name; parts = a.taken.parts }

abbrev pub ghosts-taken_out-G-Ledger : goal.ghosts-taken_out-G-Ledger
ghosts-taken_out-G-Ledger g a = record { name = a.given.name; parts = a.given.parts }
