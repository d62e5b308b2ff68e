use Rattle.vg_check.proofs.SaveLemmas.{AreLeft}
use Rattle.vg_check.proofs.saves.are_records.Given as goal

abbrev pub invariant-loop-k : goal.invariant-loop-k
invariant-loop-k l = AreLeft l.capture.packets l.trips l.bytes l.rest l.k
