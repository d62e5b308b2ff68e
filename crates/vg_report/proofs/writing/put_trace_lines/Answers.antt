use Rattle.vg_report.specs.Text.{trace_line}
use Rattle.vg_report.proofs.LineLemmas.{one_more_line}
use Rattle.vg_report.proofs.writing.put_trace_lines.Goals as goal

pub loop-number-preserved : goal.loop-number-preserved
loop-number-preserved c =
    one_more_line trace_line c.args.traces.now c.loop-number.number c.index-traces-number.result c.args.out.now.items _ _
    c.loop-number-test.true c.index-traces-number.is c.loop-number.invariant c.in_ok-put_trace_line.ensures
