-- `put_neighbor`, the command that sets an address of a neighbor: its four pieces.
use Rattle.std.proofs.Common.{[], ◌∷◌, ◌++◌}
use Rattle.std.specs.Prelude.{codes}
use Rattle.std.proofs.lemmas.Result.{on_ok_weaker}
use Rattle.vg_diff.specs.Linux.{neighbor_link}
use Rattle.vg_diff.proofs.LineLemmas.{four}
use Rattle.vg_diff.proofs.linux.put_neighbor.Goals as goal

pub returns : goal.returns
returns c =
    on_ok_weaker c.put-3.result (λ e. cc (
      e,
      c.in_ok-put_neighbor_link.ensures,
      c.in_ok-put.ensures,
      c.bytes.ensures.bytes,
      c.in_ok-put-2.ensures,
      four c.args.out.now.items (neighbor_link c.args.version c.args.number c.args.mac) (codes " dev ") c.args.interface.now (codes " nud permanent" ++ 10 ∷ []),
    )) c.put-3.ensures
