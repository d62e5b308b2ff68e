use Rattle.vg_counters.proofs.SumLemmas.{AreAddedBelow}
use Rattle.vg_counters.proofs.counting.add_counts.Given as goal

-- the counts below the place are added
abbrev pub invariant-loop-place : goal.invariant-loop-place
invariant-loop-place l = AreAddedBelow l.place l.more l.initial.counts l.counts
