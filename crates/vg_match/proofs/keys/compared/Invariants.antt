use Rattle.std.proofs.Common.{◌≡◌, take}
use Rattle.vg_match.specs.Keys.{masked}
use Rattle.vg_match.proofs.keys.compared.Given as goal

abbrev pub invariant-loop-place : goal.invariant-loop-place
invariant-loop-place l = l.out.items ≡ masked l.ignored l.layout 0 (take l.place l.front)
