use Rattle.vg_check.proofs.PushLemmas.{AreAdded}
use Rattle.vg_check.proofs.pushes.add_hands.Given as goal

abbrev pub invariant-loop-k : goal.invariant-loop-k
invariant-loop-k l = AreAdded l.legs l.initial.counts l.counts l.k

abbrev pub decreases-loop-k : goal.decreases-loop-k
decreases-loop-k l = l.k
