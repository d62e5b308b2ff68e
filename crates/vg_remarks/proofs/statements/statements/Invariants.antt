-- For `statements`: the blocks so far stand behind the edits outside of them.
use Rattle.std.proofs.Common.{◌≡◌, ◌++◌, map, take, Bor}
use Rattle.std.specs.Prelude.{flat_map}
use Rattle.vg_model.specs.declared.edits.EditLine.{EditLine}
use Rattle.vg_remarks.specs.Statements.{edits_in}
use Rattle.vg_remarks.proofs.statements.statements.Given as goal

abbrev pub invariant-loop-block : goal.invariant-loop-block
invariant-loop-block l = map {A = Bor EditLine} {B = EditLine} (λ e. e.now) l.lines.items ≡ l.script.start ++ flat_map edits_in (take l.block-index l.block-items)
