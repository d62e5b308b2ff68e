-- For `push_edits`: the edits so far stand behind those that were there.
use Rattle.std.proofs.Common.{◌≡◌, ◌++◌, map, take, Bor}
use Rattle.vg_model.specs.declared.edits.EditLine.{EditLine}
use Rattle.vg_remarks.proofs.statements.push_edits.Given as goal

abbrev pub invariant-loop-line : goal.invariant-loop-line
invariant-loop-line l =
    map {A = Bor EditLine} {B = EditLine} (λ e. e.now) l.lines.items
    ≡ map {A = Bor EditLine} {B = EditLine} (λ e. e.now) l.fn.lines.items ++ take l.line-index l.line-items
