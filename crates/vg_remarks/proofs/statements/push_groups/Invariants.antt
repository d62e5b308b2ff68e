-- For `push_groups`: the groups so far stand behind the edits that were there.
use Rattle.std.proofs.Common.{◌≡◌, List, ◌++◌, map, take, Bor}
use Rattle.std.specs.Prelude.{flat_map}
use Rattle.vg_model.specs.declared.edits.EditLine.{EditLine}
use Rattle.vg_remarks.proofs.statements.push_groups.Given as goal

abbrev pub invariant-loop-group : goal.invariant-loop-group
invariant-loop-group l =
    map {A = Bor EditLine} {B = EditLine} (λ e. e.now) l.lines.items
    ≡ map {A = Bor EditLine} {B = EditLine} (λ e. e.now) l.fn.lines.items ++ flat_map (λ (group : List EditLine). group) (take l.group-index l.groups)
