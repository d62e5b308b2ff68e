use Rattle.std.proofs.Common.{◌≡◌, map, take, All}
use Rattle.vg_match.specs.Matching.{entry_of, IsHashed}
use Rattle.vg_match.proofs.matching.with_hashes.Given as goal

abbrev pub invariant-loop-entry : goal.invariant-loop-entry
invariant-loop-entry l = (map entry_of l.made.items ≡ take l.entry-index l.entries) × All IsHashed l.made.items
