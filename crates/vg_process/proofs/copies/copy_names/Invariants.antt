-- For the clause of `copy_names`: the names so far are copied.
use Rattle.std.proofs.Common.{◌≡◌, take}
use Rattle.vg_process.proofs.copies.copy_names.Given as goal

abbrev pub invariant-loop-name : goal.invariant-loop-name
invariant-loop-name l = l.copy.items ≡ take l.name-index l.names
