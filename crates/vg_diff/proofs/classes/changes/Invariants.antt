-- `changes`, the field in which each changed packet differs: the loop over the rows.
use Rattle.std.proofs.Common.{◌≡◌, take}
use Rattle.vg_diff.specs.Classes.{changes_of}
use Rattle.vg_diff.proofs.classes.changes.Given as goal

abbrev pub invariant-loop-row : goal.invariant-loop-row
invariant-loop-row l = l.changes.items ≡ changes_of l.found (take l.row-index l.rows)
