use Rattle.std.proofs.Common.{◌≡◌, ◌++◌, map, take}
use Rattle.vg_match.specs.Matching.{entry_of}
use Rattle.vg_match.proofs.matching.put_entries.Given as goal

abbrev pub invariant-loop-one : goal.invariant-loop-one
invariant-loop-one l = l.out.items ≡ l.fn.out.items ++ map entry_of (take l.one-index l.hashed)
