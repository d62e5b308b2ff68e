use Rattle.std.proofs.Common.{◌≡◌, take}
use Rattle.vg_process.proofs.copies.copy_groups.Given as goal

abbrev pub invariant-loop-edits : goal.invariant-loop-edits
invariant-loop-edits l = l.copy.items ≡ take l.edits-index l.groups
