-- For the loop of `push_groups`: one group more.
use Rattle.std.proofs.Common.{List, ◌++◌, map, ap, ◌∙◌, Bor}
use Rattle.vg_model.specs.declared.edits.EditLine.{EditLine}
use Rattle.vg_remarks.proofs.StatementLemmas.{piece_more}
use Rattle.vg_remarks.proofs.statements.push_groups.Goals as goal

pub loop-group-preserved : goal.loop-group-preserved
loop-group-preserved c =
    c.in_ok-push_edits.ensures
    ∙ (ap (λ l. l ++ c.group-item.result) c.loop-group.invariant
    ∙ piece_more (λ (group : List EditLine). group) (map {A = Bor EditLine} {B = EditLine} (λ e. e.now) c.args.lines.now.items) c.args.groups.now c.loop-group.group-index c.group-item.result
    c.loop-group-test.true c.group-item.is)
