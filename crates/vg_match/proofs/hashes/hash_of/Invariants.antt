use Rattle.std.proofs.Common.{◌≡◌}
use Rattle.vg_match.specs.Hashes.{hash_of_groups}
use Rattle.vg_match.proofs.hashes.hash_of.Given as goal

abbrev pub invariant-loop-group : goal.invariant-loop-group
invariant-loop-group l = l.hash ≡ hash_of_groups l.bytes l.group
