use Rattle.std.proofs.lemmas.Result.{on_ok_weaker}
use Rattle.vg_report.proofs.LineLemmas.{head_steps}
use Rattle.vg_report.proofs.writing.put_head_lines.Goals as goal

pub returns : goal.returns
returns c =
    on_ok_weaker c.put_count_line-4.result (λ e. cc (
      e,
      c.in_ok-put.ensures,
      c.in_ok-put_count_line.ensures,
      c.in_ok-put_count_line-2.ensures,
      c.in_ok-put_count_line-3.ensures,
      c.len.ensures,
      head_steps c.args.out.now.items c.args.report.now,
    )) c.put_count_line-4.ensures
