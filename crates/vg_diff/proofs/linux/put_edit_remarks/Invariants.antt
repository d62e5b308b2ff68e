-- `put_edit_remarks`, the comments on edits: the loop over these.
use Rattle.std.proofs.Common.{◌≡◌, ◌++◌, take, flat_map}
use Rattle.vg_model.specs.declared.edits.EditLine.{EditLine}
use Rattle.vg_diff.specs.Linux.{remark_on}
use Rattle.vg_diff.proofs.linux.put_edit_remarks.Given as goal

abbrev pub invariant-loop-line : goal.invariant-loop-line
invariant-loop-line l = l.out.items ≡ l.fn.out.items ++ flat_map (λ (line : EditLine). remark_on line.line line.edit) (take l.line-index l.lines)
