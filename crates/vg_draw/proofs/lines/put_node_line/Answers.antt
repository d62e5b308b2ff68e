-- `put_node_line`, the line of a node.
use Rattle.std.proofs.Common.{◌∷◌, []}
use Rattle.std.specs.Prelude.{codes, ◌++◌}
use Rattle.std.proofs.lemmas.Result.{on_ok_weaker}
use Rattle.vg_draw.specs.Drawing.{node_id, kind_text, node_counts, grey_text, is_unvisited, leaving}
use Rattle.vg_draw.proofs.LineLemmas.{eight_behind}
use Rattle.vg_draw.proofs.lines.put_node_line.Goals as goal

pub returns : goal.returns
returns c =
    on_ok_weaker c.put-4.result (λ e. cc (
      e,
      c.in_ok-put_begin.ensures,
      c.in_ok-put.ensures,
      c.bytes.ensures.bytes,
      c.in_ok-put_kind_line.ensures,
      c.in_ok-put_node_counts.ensures,
      c.in_ok-put-2.ensures,
      c.is_unvisited.ensures,
      c.in_ok-put_grey.ensures,
      c.in_ok-put-3.ensures,
      c.in_ok-put_leaving.ensures,
      eight_behind c.args.out.now.items (codes "  ") (node_id c.args.number) (codes " [label=" ++ 34 ∷ []) c.args.name.now (kind_text c.args.name.now c.args.kind)
          (node_counts c.args.report.now c.args.name.now) (34 ∷ []) (grey_text (is_unvisited c.args.report.now c.args.name.now)) (codes "];")
          (leaving c.args.report.now c.args.number c.args.name.now c.args.kind) (10 ∷ []),
    )) c.put-4.ensures
