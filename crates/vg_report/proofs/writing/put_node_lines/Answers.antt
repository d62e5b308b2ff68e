use Rattle.vg_report.specs.Text.{node_line}
use Rattle.vg_report.proofs.LineLemmas.{one_more_line}
use Rattle.vg_report.proofs.writing.put_node_lines.Goals as goal

pub loop-number-preserved : goal.loop-number-preserved
loop-number-preserved c =
    one_more_line node_line c.args.nodes.now c.loop-number.number c.index-nodes-number.result c.args.out.now.items _ _
    c.loop-number-test.true c.index-nodes-number.is c.loop-number.invariant c.in_ok-put_node_line.ensures
