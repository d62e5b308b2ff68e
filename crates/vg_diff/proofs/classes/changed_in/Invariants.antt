-- `changed_in`, the packets that changed in a field: the loop over the changes.
use Rattle.std.proofs.Common.{◌≡◌, take}
use Rattle.vg_diff.specs.Classes.{changed_in}
use Rattle.vg_diff.proofs.classes.changed_in.Given as goal

abbrev pub invariant-loop-change : goal.invariant-loop-change
invariant-loop-change l = l.numbers.items ≡ changed_in l.field (take l.change-index l.changes)
