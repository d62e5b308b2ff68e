use Rattle.vg_engine.proofs.threads.run_threads.Given as goal

abbrev pub ghosts-run_counted-T-PoolLedger : goal.ghosts-run_counted-T-PoolLedger
ghosts-run_counted-T-PoolLedger g a = record { total = a.input.now.options.now.buffers }

abbrev pub ghosts-run_counted-T-Ledger : goal.ghosts-run_counted-T-Ledger
ghosts-run_counted-T-Ledger g a = record { name = a.taken.name; parts = a.taken.parts }

abbrev pub ghosts-run_counted-L-Ledger : goal.ghosts-run_counted-L-Ledger
ghosts-run_counted-L-Ledger g a = record { name = a.given.name; parts = a.given.parts }
