use Rattle.vg_report.specs.Text.{interface_line}
use Rattle.vg_report.proofs.LineLemmas.{one_more_line}
use Rattle.vg_report.proofs.writing.put_interface_lines.Goals as goal

pub loop-number-preserved : goal.loop-number-preserved
loop-number-preserved c =
    one_more_line interface_line c.args.interfaces.now c.loop-number.number c.index-interfaces-number.result c.args.out.now.items _ _
    c.loop-number-test.true c.index-interfaces-number.is c.loop-number.invariant c.in_ok-put_interface_line.ensures
