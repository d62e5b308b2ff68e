-- For the clause of `put_arcs_of`: each slot has an arc, and each arc its line.
use Rattle.std.proofs.Common.{◌≤◌, ◌++◌, length, ap, ◌∙◌, arith}
use Rattle.std.proofs.lemmas.List.{take_all}
use Rattle.vg_model.specs.Graph.{next_nodes}
use Rattle.vg_draw.specs.Drawing.{arc_line, arc_lines}
use Rattle.vg_draw.proofs.LineLemmas.{arc_among, length-next_nodes, one_more_line}
use Rattle.vg_draw.proofs.drawing.put_arcs_of.Goals as goal

pub loop-slot-preserved : goal.loop-slot-preserved
loop-slot-preserved c =
    one_more_line (arc_line c.args.report.now c.args.number c.args.name.now c.args.kind) (next_nodes c.args.graph.now c.args.number) c.loop-slot.slot c.arc-target.result
    c.args.out.now.items _ _ (arc_among c.args.graph.now c.args.number c.loop-slot.slot c.arc-target.result c.arc-target.ensures) c.loop-slot.invariant
    c.in_ok-put_arc_line.ensures

pub returns : goal.returns
returns c =
    let arcs = next_nodes c.args.graph.now c.args.number in
    let count = length-next_nodes c.args.graph.now c.args.number c.args.kind c.nodes-nodes.ensures.kept.valid c.requires.kind in
    let all : length arcs ≤ c.loop-slot.slot = omega (arith, count, c.slots-slot-end.ensures.count, c.loop-slot-test.false) in
    c.loop-slot.invariant
    ∙ ap (λ targets. c.args.out.now.items ++ arc_lines c.args.report.now c.args.number c.args.name.now c.args.kind targets) (take_all c.loop-slot.slot arcs all)
