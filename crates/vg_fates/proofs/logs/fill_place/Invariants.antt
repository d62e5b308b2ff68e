-- For `fill_place`: the moving entry is held while others go to their places.
use Rattle.vg_fates.proofs.HeldLemmas.{IsHeld}
use Rattle.vg_fates.proofs.logs.fill_place.Given as goal

abbrev pub invariant-loop-step : goal.invariant-loop-step
invariant-loop-step l = IsHeld l.fn.entries l.entries l.place l.moving
