use Rattle.std.proofs.Common.{◌≡◌, take}
use Rattle.vg_file_tests.proofs.report.legs.Given as goal

abbrev pub invariant-loop-leg : goal.invariant-loop-leg
invariant-loop-leg l = l.legs ≡ take l.leg-index l.way
