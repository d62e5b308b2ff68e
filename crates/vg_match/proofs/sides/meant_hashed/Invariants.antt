-- `meant_hashed`, the entries that are meant with their hashes: the loop over the frames.
use Rattle.std.proofs.Common.{◌≡◌, ◌++◌, map, drop, All}
use Rattle.vg_match.specs.Keys.{compared}
use Rattle.vg_match.specs.Matching.{entry_of, IsHashed}
use Rattle.vg_match.specs.Sides.{seen, number_of, meant_numbers, IsOf}
use Rattle.vg_match.proofs.sides.meant_hashed.Given as goal

abbrev pub invariant-loop-number : goal.invariant-loop-number
invariant-loop-number l =
    (map number_of (map entry_of l.made.items) ++ meant_numbers l.only l.number (drop l.number (seen l.side.frames.now)) ≡ meant_numbers l.only 0 (seen l.side.frames.now))
    × All (IsOf (compared l.ignored) (seen l.side.frames.now)) (map entry_of l.made.items)
    × All IsHashed l.made.items
