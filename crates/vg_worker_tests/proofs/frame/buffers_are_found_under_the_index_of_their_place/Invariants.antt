use Rattle.vg_worker_tests.proofs.frame.buffers_are_found_under_the_index_of_their_place.Given as goal

abbrev pub ghosts-places_and_lifts-T-PoolLedger : goal.ghosts-places_and_lifts-T-PoolLedger
ghosts-places_and_lifts-T-PoolLedger g a = record { total = 2 }

abbrev pub ghosts-places_and_lifts-T-Ledger : goal.ghosts-places_and_lifts-T-Ledger
ghosts-places_and_lifts-T-Ledger g a = record { name = a.taken.name; parts = a.taken.parts }

abbrev pub ghosts-places_and_lifts-G-Ledger : goal.ghosts-places_and_lifts-G-Ledger
ghosts-places_and_lifts-G-Ledger g a = record { name = a.given.name; parts = a.given.parts }
