use Rattle.std.proofs.Common.{◌≡◌}
use Rattle.vg_threads.proofs.started.work.Given as goal

abbrev pub invariant-loop : goal.invariant-loop
invariant-loop g l = l.tied ≡ l.fn.tied
