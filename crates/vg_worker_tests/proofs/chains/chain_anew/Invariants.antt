use Rattle.vg_worker_tests.proofs.chains.chain_anew.Given as goal

abbrev pub ghosts-chain-T-PoolLedger : goal.ghosts-chain-T-PoolLedger
ghosts-chain-T-PoolLedger g a = record { total = 300 }

abbrev pub ghosts-chain-T-Ledger : goal.ghosts-chain-T-Ledger
ghosts-chain-T-Ledger g a = record { name = a.taken.name; parts = a.taken.parts }

abbrev pub ghosts-chain-G-Ledger : goal.ghosts-chain-G-Ledger
ghosts-chain-G-Ledger g a = record { name = a.given.name; parts = a.given.parts }
