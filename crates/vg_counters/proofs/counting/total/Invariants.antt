use Rattle.vg_counters.proofs.TotalLemmas.{IsTotalBelow}
use Rattle.vg_counters.proofs.counting.total.Given as goal

-- the parts so far are added
abbrev pub invariant-loop-part : goal.invariant-loop-part
invariant-loop-part l = IsTotalBelow l.part-index l.parts l.whole
