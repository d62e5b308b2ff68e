use Rattle.std.proofs.Common.{◌≡◌, length}
use Rattle.vg_trials.proofs.run_tests.run.Given as goal

abbrev pub invariant-loop-time : goal.invariant-loop-time
invariant-loop-time g l = length l.packets.items ≡ l.time-index
