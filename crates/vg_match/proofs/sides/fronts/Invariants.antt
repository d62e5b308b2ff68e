use Rattle.std.proofs.Common.{◌≡◌, [], map, take}
use Rattle.vg_match.specs.Keys.{compared}
use Rattle.vg_match.specs.Sides.{seen}
use Rattle.vg_match.proofs.sides.fronts.Given as goal

abbrev pub invariant-loop-frame : goal.invariant-loop-frame
invariant-loop-frame l = seen l.keys.items ≡ map (compared []) (seen (take l.frame-index l.frames))
