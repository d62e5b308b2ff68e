-- `status_of`, that it is 0 exactly where all rows hold: the loop over the rows.
use Rattle.std.proofs.Common.{◌≡◌, length}
use Rattle.std.specs.List.{list_all}
use Rattle.vg_row.specs.Holds.{has_held}
use Rattle.vg_row.proofs.judging.status_of.Given as goal

-- the rows so far hold
abbrev pub invariant-loop-rest : goal.invariant-loop-rest
invariant-loop-rest l = list_all has_held l.rest ≡ list_all has_held l.fn.judged

abbrev pub decreases-loop-rest : goal.decreases-loop-rest
decreases-loop-rest l = length l.rest
