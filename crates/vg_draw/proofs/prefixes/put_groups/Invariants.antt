-- `put_groups`, groups parted by `:`: the loop over them.
use Rattle.std.proofs.Common.{◌≡◌, ◌++◌, ◌∷◌, take, flat_map}
use Rattle.vg_draw.specs.Prefixes.{group_text}
use Rattle.vg_draw.proofs.prefixes.put_groups.Given as goal

abbrev pub invariant-loop-group : goal.invariant-loop-group
invariant-loop-group l = l.out.items ≡ l.initial.out.items ++ flat_map (λ group. 58 ∷ group_text group) (take l.group-index l.others)
