-- `outcomes_of`, that each call has an outcome: the loop over the calls.
use Rattle.std.proofs.Common.{◌≡◌, length}
use Rattle.vg_rows.proofs.running.outcomes_of.Given as goal

abbrev pub invariant-loop-call : goal.invariant-loop-call
invariant-loop-call g l = length l.outcomes.items ≡ l.call-index
