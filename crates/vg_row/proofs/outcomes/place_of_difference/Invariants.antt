-- `place_of_difference`, that its loop ends.
use Rattle.std.proofs.Common.{◌-◌, length}
use Rattle.vg_row.proofs.outcomes.place_of_difference.Given as goal

abbrev pub decreases-loop-place : goal.decreases-loop-place
decreases-loop-place l = length l.one - l.place
