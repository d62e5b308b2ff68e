use Rattle.std.proofs.Common.{◌≡◌, take}
use Rattle.std.specs.List.{fold}
use Rattle.vg_draw.specs.Drawing.{less}
use Rattle.vg_draw.proofs.counts.passed_on.Given as goal

abbrev pub invariant-loop-entry : goal.invariant-loop-entry
invariant-loop-entry l = l.left ≡ fold (less l.name) l.visits (take l.entry-index l.errors)
