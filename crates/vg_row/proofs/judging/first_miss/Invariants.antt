-- `first_miss`, that it is none exactly where all outcomes are as the row says: the loop over the outcomes.
use Rattle.std.proofs.Common.{◌≡◌, length}
use Rattle.vg_row.specs.Holds.{all_hold}
use Rattle.vg_row.proofs.judging.first_miss.Given as goal

-- the outcomes so far are as the row says
abbrev pub invariant-loop-rest : goal.invariant-loop-rest
invariant-loop-rest l = all_hold l.row l.rest ≡ all_hold l.row l.fn.outcomes

abbrev pub decreases-loop-rest : goal.decreases-loop-rest
decreases-loop-rest l = length l.rest
