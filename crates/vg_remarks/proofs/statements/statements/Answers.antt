-- For the loop of `statements`: one block more, and all of them.
use Rattle.std.proofs.Common.{◌++◌, ap, ◌∙◌}
use Rattle.std.specs.Prelude.{flat_map}
use Rattle.std.proofs.lemmas.List.{take_all}
use Rattle.vg_remarks.specs.Statements.{edits_in}
use Rattle.vg_remarks.proofs.StatementLemmas.{piece_more}
use Rattle.vg_remarks.proofs.statements.statements.Goals as goal

pub loop-block-preserved : goal.loop-block-preserved
loop-block-preserved c =
    c.in_ok-push_block.ensures
    ∙ (ap (λ l. l ++ edits_in c.block-item.result) c.loop-block.invariant
    ∙ piece_more edits_in c.args.script.now.start c.as_slice-block-items.result.now c.loop-block.block-index c.block-item.result c.loop-block-test.true c.block-item.is)

pub returns : goal.returns
returns c =
    c.loop-block.invariant
    ∙ ap (λ blocks. c.args.script.now.start ++ flat_map edits_in blocks)
    (take_all c.loop-block.block-index c.as_slice-block-items.result.now c.loop-block-test.false ∙ c.as_slice-block-items.ensures)
