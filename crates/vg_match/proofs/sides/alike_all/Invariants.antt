use Rattle.std.proofs.Common.{◌≡◌, map, take}
use Rattle.vg_match.specs.Sides.{seen, alike_at}
use Rattle.vg_match.proofs.sides.alike_all.Given as goal

abbrev pub invariant-loop-number : goal.invariant-loop-number
invariant-loop-number l = l.rows.items ≡ map (alike_at l.likeness (seen l.side.frames.now) (seen l.side.keys.now)) (take l.number-index l.numbers)
