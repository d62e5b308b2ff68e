use Rattle.std.proofs.Common.{◌≡◌, take}
use Rattle.vg_match.specs.Sides.{seen}
use Rattle.vg_match.proofs.sides.views.Given as goal

abbrev pub invariant-loop-row : goal.invariant-loop-row
invariant-loop-row l = seen l.keys.items ≡ take l.row-index l.rows
