-- For the clause of `draw`: the drawing in its parts.
use Rattle.std.proofs.Common.{◌∷◌, []}
use Rattle.std.proofs.lemmas.Result.{on_ok_weaker}
use Rattle.vg_draw.specs.Prefixes.{seen}
use Rattle.vg_draw.specs.Drawing.{head_text, node_lines, all_arc_lines, all_drop_lines, interface_lines, adjacency_lines}
use Rattle.vg_draw.proofs.LineLemmas.{drawing_steps}
use Rattle.vg_draw.proofs.drawing.draw.Goals as goal

pub returns : goal.returns
returns c =
    on_ok_weaker c.put.result (drawing_steps c.args.out.now.items (head_text c.args.report.now c.args.generation c.args.from) (node_lines c.args.report.now c.args.graph.now.nodes)
    (all_arc_lines c.args.report.now c.args.graph.now.nodes) (all_drop_lines c.args.report.now c.args.graph.now.nodes)
    (interface_lines c.args.report.now c.args.graph.now.interfaces) (adjacency_lines (seen c.args.before) (seen c.args.routes) c.args.graph.now.adjacencies) (125 ∷ 10 ∷ [])
    c.in_ok-put_head.ensures c.in_ok-put_nodes.ensures c.in_ok-put_arcs.ensures c.in_ok-put_drops.ensures c.in_ok-put_interfaces.ensures c.in_ok-put_adjacencies.ensures) c.put.ensures
