-- `part_of`, that it is the first part of the name: the loop over the parts.
use Rattle.std.proofs.Common.{◌≡◌, length}
use Rattle.vg_row.specs.Builds.{bytes_named}
use Rattle.vg_row.proofs.building.part_of.Given as goal

-- no part so far has the name
abbrev pub invariant-loop-rest : goal.invariant-loop-rest
invariant-loop-rest l = bytes_named l.rest l.name ≡ bytes_named l.fn.parts l.name

abbrev pub decreases-loop-rest : goal.decreases-loop-rest
decreases-loop-rest l = length l.rest
