-- For the loop of `push_edits`: one edit more.
use Rattle.std.proofs.Common.{map, refl, Bor}
use Rattle.vg_model.specs.declared.edits.EditLine.{EditLine}
use Rattle.vg_remarks.proofs.StatementLemmas.{pushed}
use Rattle.vg_remarks.proofs.statements.push_edits.Goals as goal

pub loop-line-preserved : goal.loop-line-preserved
loop-line-preserved c =
    pushed (map {A = Bor EditLine} {B = EditLine} (λ e. e.now) c.args.lines.now.items) c.loop-line.lines.items c.push.new.self.items _ c.as_slice-line-items.result.now c.loop-line.line-index
    c.line-item.result c.loop-line.invariant c.in_ok-push.ensures.items refl c.loop-line-test.true c.line-item.is
