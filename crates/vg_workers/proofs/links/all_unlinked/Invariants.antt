use Rattle.std.proofs.Common.{◌≡◌, [], length}
use Rattle.std.specs.List.{AllByRecursion}
use Rattle.vg_workers.proofs.links.all_unlinked.Given as goal

abbrev pub invariant-loop-i : goal.invariant-loop-i
invariant-loop-i l = (length l.links.items ≡ l._i) × AllByRecursion (λ k. (k.inputs.items ≡ []) × (k.outputs.items ≡ [])) l.links.items
