use Rattle.std.proofs.Common.{◌≡◌, []}
use Rattle.std.specs.Prelude.{replicate}
use Rattle.vg_underway.proofs.making.empty_groups.Given as goal

abbrev pub invariant-groups : goal.invariant-groups
invariant-groups l = l.groups.items ≡ replicate l._i []
