use Rattle.vg_check.specs.Hands.{AreRefusalsBelow}
use Rattle.vg_check.proofs.pushes.first_unlawful.Given as goal

abbrev pub invariant-loop-k : goal.invariant-loop-k
invariant-loop-k l = AreRefusalsBelow l.fn.slots l.lines l.trips l.k
