use Rattle.vg_draw.specs.Drawing.{interface_line}
use Rattle.vg_draw.proofs.LineLemmas.{one_more_line}
use Rattle.vg_draw.proofs.drawing.put_interfaces.Goals as goal

pub loop-number-preserved : goal.loop-number-preserved
loop-number-preserved c =
    one_more_line (interface_line c.args.report.now) c.args.graph.now.interfaces c.loop-number.number c.interface_at.result.now c.args.out.now.items _ _
    c.interface_at.ensures c.loop-number.invariant c.in_ok-put_interface_line.ensures
