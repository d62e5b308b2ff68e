use Rattle.vg_counters.proofs.SumLemmas.{AreRowsAddedBelow}
use Rattle.vg_counters.proofs.counting.add_rows.Given as goal

-- the drops of the nodes below this one are added
abbrev pub invariant-loop-node : goal.invariant-loop-node
invariant-loop-node l = AreRowsAddedBelow l.node l.more l.initial.rows l.rows
