use Rattle.std.proofs.Common.{◌≡◌, ◌++◌, map, take, drop}
use Rattle.vg_fates.specs.Logs.{moved_behind}
use Rattle.vg_fates.proofs.logs.all_moved.Given as goal

abbrev pub invariant-loop-entry : goal.invariant-loop-entry
invariant-loop-entry l = l.entry-items ≡ map (moved_behind l.fn.places) (take l.entry-index l.fn.entries.items) ++ drop l.entry-index l.fn.entries.items
