-- `there_with`, the packets that came though they had to be dropped with an error: the loop over the rows.
use Rattle.std.proofs.Common.{◌≡◌, take}
use Rattle.vg_diff.specs.Classes.{there_with}
use Rattle.vg_diff.proofs.classes.there_with.Given as goal

abbrev pub invariant-loop-row : goal.invariant-loop-row
invariant-loop-row l = l.numbers.items ≡ there_with l.found (take l.row-index l.rows) l.error
