-- For `Chain::new`: its ghost values.
use Rattle.vg_story.proofs.chains.Chain.new.Given as goal

abbrev pub ghosts-first_chain-T-PoolLedger : goal.ghosts-first_chain-T-PoolLedger
ghosts-first_chain-T-PoolLedger a = record { total = 5 }

abbrev pub ghosts-first_chain-T-Ledger : goal.ghosts-first_chain-T-Ledger
ghosts-first_chain-T-Ledger a = record { name = a.taken.name; parts = a.taken.parts }

abbrev pub ghosts-first_chain-G-Ledger : goal.ghosts-first_chain-G-Ledger
ghosts-first_chain-G-Ledger a = record { name = a.given.name; parts = a.given.parts }
