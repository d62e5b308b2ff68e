use Rattle.std.proofs.Common.{decimal}
use Rattle.std.proofs.lemmas.Result.{on_ok_weaker}
use Rattle.vg_report.proofs.LineLemmas.{trace_steps}
use Rattle.vg_report.proofs.writing.put_trace_line.Goals as goal

pub returns : goal.returns
returns c =
    on_ok_weaker c.end_line.result (λ e. cc (
      e,
      c.in_ok-put.ensures,
      c.in_ok-put_number.ensures,
      c.in_ok-put_names.ensures,
      c.as_slice.ensures,
      trace_steps c.args.out.now.items (decimal c.args.number) c.args.names.now,
    )) c.end_line.ensures
