use Rattle.std.proofs.Common.{◌≡◌, take}
use Rattle.vg_replay.proofs.trips.copied.Given as goal

abbrev pub invariant-loop-leg : goal.invariant-loop-leg
invariant-loop-leg l = l.copy ≡ take l.leg-index l.legs
