-- For `log_of`: its loop.
use Rattle.std.proofs.Common.{take}
use Rattle.vg_ways.specs.Logs.{tallies_of, tally_of_all}
use Rattle.vg_ways.proofs.CountLemmas.{AreTallies}
use Rattle.vg_ways.proofs.logs.log_of.Given as goal

-- the entries so far are counted
abbrev pub invariant-loop-entry : goal.invariant-loop-entry
invariant-loop-entry l = AreTallies l.generations (take l.entry-index l.entries) (tallies_of l.log) (tally_of_all l.log)
