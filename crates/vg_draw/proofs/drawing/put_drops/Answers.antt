-- For the loop of `put_drops`: one node more.
use Rattle.vg_draw.specs.Drawing.{drop_lines}
use Rattle.vg_draw.proofs.LineLemmas.{one_more_name}
use Rattle.vg_draw.proofs.drawing.put_drops.Goals as goal

pub loop-number-preserved : goal.loop-number-preserved
loop-number-preserved c =
    one_more_name (drop_lines c.args.report.now) c.args.graph.now.nodes c.loop-number.number c.node_name.result.now c.args.out.now.items _ _
    c.node_name.ensures c.loop-number.invariant c.in_ok-put_drop_lines.ensures
