use Rattle.std.proofs.Common.{◌≡◌, map, take}
use Rattle.vg_match.specs.Sides.{number_of, key_of}
use Rattle.vg_match.proofs.sides.with_keys.Given as goal

abbrev pub invariant-loop-at : goal.invariant-loop-at
invariant-loop-at l = (map number_of l.made.items ≡ take l.at l.numbers) × (map key_of l.made.items ≡ take l.at l.rows)
