-- `put_local`, the command that sets a route to this host: its four pieces.
use Rattle.std.specs.Prelude.{codes}
use Rattle.std.proofs.lemmas.Result.{on_ok_weaker}
use Rattle.vg_diff.specs.Linux.{line_text, route_begin}
use Rattle.vg_diff.proofs.LineLemmas.{four}
use Rattle.vg_diff.proofs.linux.put_local.Goals as goal

pub returns : goal.returns
returns c =
    on_ok_weaker c.put_line.result (λ e. cc (
      e,
      c.route.ensures,
      c.in_ok-put.ensures,
      c.in_ok-put-2.ensures,
      c.in_ok-put-3.ensures,
      four c.args.out.now.items (route_begin c.args.version) (codes "local ") c.args.prefix.now (line_text (codes " dev lo table main")),
    )) c.put_line.ensures
