use Rattle.std.proofs.Common.{◌≡◌, map}
use Rattle.vg_threads.specs.Starts.{started_tie}
use Rattle.vg_threads.proofs.driving.turn_all_here.Given as goal

abbrev pub invariant-loop-k : goal.invariant-loop-k
invariant-loop-k g l = map started_tie l.started.items ≡ map started_tie l.fn.started.items
