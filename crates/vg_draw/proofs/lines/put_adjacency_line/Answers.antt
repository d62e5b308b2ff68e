-- `put_adjacency_line`, the line of a neighbor.
use Rattle.std.proofs.Common.{◌∷◌, []}
use Rattle.std.specs.Prelude.{codes, ◌++◌}
use Rattle.std.proofs.lemmas.Result.{on_ok_weaker}
use Rattle.vg_draw.specs.Prefixes.{seen}
use Rattle.vg_draw.specs.Drawing.{adjacency_id, interface_id, adjacency_label}
use Rattle.vg_draw.proofs.LineLemmas.{six_behind}
use Rattle.vg_draw.proofs.lines.put_adjacency_line.Goals as goal

pub returns : goal.returns
returns c =
    on_ok_weaker c.put-3.result (λ e. cc (
      e,
      c.in_ok-put_begin.ensures,
      c.in_ok-put_adjacency_label.ensures,
      c.in_ok-put.ensures,
      c.in_ok-put_id.ensures,
      c.in_ok-put-2.ensures,
      c.in_ok-put_id-2.ensures,
      six_behind c.args.out.now.items (codes "  ") (adjacency_id c.args.number) (codes " [style=rounded, label=<")
          (adjacency_label (seen c.args.before) (seen c.args.routes) c.args.number c.args.adjacency.now) (codes ">]; ") (interface_id c.args.adjacency.now.interface) (codes " -> ")
          (adjacency_id c.args.number) (codes " [style=dashed];" ++ 10 ∷ []),
    )) c.put-3.ensures
