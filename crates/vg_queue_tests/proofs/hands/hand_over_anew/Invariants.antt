use Rattle.vg_queue_tests.proofs.hands.hand_over_anew.Given as goal

abbrev pub ghosts-hand_over-T-PoolLedger : goal.ghosts-hand_over-T-PoolLedger
ghosts-hand_over-T-PoolLedger g a = record { total = 4 }

abbrev pub ghosts-hand_over-T-Ledger : goal.ghosts-hand_over-T-Ledger
ghosts-hand_over-T-Ledger g a = record { name = a.taken.name; parts = a.taken.parts }

abbrev pub ghosts-hand_over-G-Ledger : goal.ghosts-hand_over-G-Ledger
ghosts-hand_over-G-Ledger g a = record { name = a.given.name; parts = a.given.parts }
