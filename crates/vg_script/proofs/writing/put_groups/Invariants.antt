use Rattle.std.proofs.Common.{◌≡◌, ◌++◌, ◌∷◌, [], codes, take, flat_map}
use Rattle.vg_script.specs.Plain.{line_text, edit_lines}
use Rattle.vg_script.proofs.writing.put_groups.Given as goal

abbrev pub invariant-loop-group : goal.invariant-loop-group
invariant-loop-group l =
    l.out.items ≡ l.initial.out.items ++ flat_map line_text (flat_map (λ group. (codes "then" ∷ []) ∷ edit_lines group) (take l.group-index l.others))
