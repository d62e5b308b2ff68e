use Rattle.vg_check.proofs.PushLemmas.{AreHandsOf}
use Rattle.vg_check.proofs.pushes.all_hands.Given as goal

abbrev pub invariant-loop-k : goal.invariant-loop-k
invariant-loop-k l = AreHandsOf l.trips l.counts l.k
