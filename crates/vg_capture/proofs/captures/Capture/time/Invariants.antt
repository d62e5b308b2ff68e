use Rattle.std.proofs.Common.{◌≡◌, ◌-◌}
use Rattle.vg_capture.specs.Time.{latest}
use Rattle.vg_capture.proofs.captures.Capture.time.Given as goal

abbrev pub invariant-loop-other : goal.invariant-loop-other
invariant-loop-other l = l.latest ≡ latest l.self (l.other - 1)
