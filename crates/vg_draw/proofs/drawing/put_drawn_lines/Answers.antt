-- For the loop of `put_drawn_lines`: one node more.
use Rattle.vg_draw.specs.Drawing.{drawn_line}
use Rattle.vg_draw.proofs.LineLemmas.{node_at, one_more_node}
use Rattle.vg_draw.proofs.drawing.put_drawn_lines.Goals as goal

pub loop-number-preserved : goal.loop-number-preserved
loop-number-preserved c =
    one_more_node (drawn_line c.args.ways c.args.report.now) c.args.graph.now.nodes c.loop-number.number c.node_name.result.now c.kind-kind.result c.args.out.now.items _ _
    (node_at c.args.graph.now.nodes c.loop-number.number _ _ c.node_name.ensures c.kind-kind.ensures) c.loop-number.invariant c.in_ok-put_drawn_line.ensures
