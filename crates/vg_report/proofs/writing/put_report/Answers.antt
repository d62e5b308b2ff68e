use Rattle.std.proofs.Common.{[], ◌∷◌, map}
use Rattle.std.proofs.lemmas.Result.{on_ok_weaker}
use Rattle.vg_report.specs.declared.reports.Report.{Report}
use Rattle.vg_report.specs.Text.{head_lines, numbered, interface_line, node_line, error_line, packet_line, trace_line, last_line}
use Rattle.vg_report.proofs.LineLemmas.{report_steps}
use Rattle.vg_report.proofs.writing.put_report.Goals as goal

pub returns : goal.returns
returns c =
    let r : Report = c.args.report.now in
    on_ok_weaker c.put.result (λ e. cc (
      e,
      c.in_ok-put_head_lines.ensures,
      c.in_ok-put_interface_lines.ensures,
      c.in_ok-put_node_lines.ensures,
      c.in_ok-put_error_lines.ensures,
      c.in_ok-put_packet_lines.ensures,
      c.in_ok-put_trace_lines.ensures,
      c.as_slice.ensures,
      c.as_slice-2.ensures,
      c.as_slice-3.ensures,
      c.as_slice-4.ensures,
      report_steps c.args.out.now.items (head_lines r) (numbered interface_line 0 r.interfaces) (numbered node_line 0 r.nodes) (map error_line r.errors)
          (numbered packet_line 0 r.packets) (numbered trace_line 0 r.traces) (last_line ∷ []),
    )) c.put.ensures
