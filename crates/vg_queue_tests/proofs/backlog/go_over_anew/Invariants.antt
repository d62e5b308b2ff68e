use Rattle.vg_queue_tests.proofs.backlog.go_over_anew.Given as goal

abbrev pub ghosts-go_over-T-PoolLedger : goal.ghosts-go_over-T-PoolLedger
ghosts-go_over-T-PoolLedger g a = record { total = 10 }

abbrev pub ghosts-go_over-T-Ledger : goal.ghosts-go_over-T-Ledger
ghosts-go_over-T-Ledger g a = record { name = a.taken.name; parts = a.taken.parts }

abbrev pub ghosts-go_over-G-Ledger : goal.ghosts-go_over-G-Ledger
ghosts-go_over-G-Ledger g a = record { name = a.given.name; parts = a.given.parts }
