-- `put_line_begin`, the beginning of a comment on a line of the script: its three pieces.
use Rattle.std.specs.Prelude.{codes, decimal}
use Rattle.std.proofs.lemmas.Result.{on_ok_weaker}
use Rattle.vg_diff.proofs.LineLemmas.{three}
use Rattle.vg_diff.proofs.linux.put_line_begin.Goals as goal

pub returns : goal.returns
returns c =
    on_ok_weaker c.put-2.result (λ e. cc (
      e,
      c.from.ensures,
      c.in_ok-put.ensures,
      c.in_ok-put_decimal.ensures,
      three c.args.out.now.items (codes "# line ") (decimal c.args.line) (codes " of the script has "),
    )) c.put-2.ensures
