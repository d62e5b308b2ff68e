-- For `put_groups`: its loop.
use Rattle.std.proofs.Common.{◌≡◌, ◌++◌, ◌∷◌, take, flat_map}
use Rattle.vg_script.specs.Plain.{group_text}
use Rattle.vg_diff.proofs.addresses.put_groups.Given as goal

abbrev pub invariant-loop-group : goal.invariant-loop-group
invariant-loop-group l = l.out.items ≡ l.initial.out.items ++ flat_map (λ group. 58 ∷ group_text group) (take l.group-index l.others)
