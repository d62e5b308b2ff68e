-- `alone`, the packets without a partner: the loop over the rows.
use Rattle.std.proofs.Common.{◌≡◌, take}
use Rattle.vg_diff.specs.Classes.{numbers_alone}
use Rattle.vg_diff.proofs.classes.alone.Given as goal

abbrev pub invariant-loop-row : goal.invariant-loop-row
invariant-loop-row l = l.numbers.items ≡ numbers_alone (take l.row-index l.rows)
