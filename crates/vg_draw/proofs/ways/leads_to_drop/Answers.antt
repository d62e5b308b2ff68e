-- For the clause of `leads_to_drop`: each slot has an arc.
use Rattle.std.proofs.Common.{◌≤◌, length, sym, ap, ◌∙◌, arith}
use Rattle.std.specs.Prelude.{◌==◌, option_map}
use Rattle.std.proofs.lemmas.Bool.{eq-eqb}
use Rattle.std.proofs.lemmas.List.{take_all}
use Rattle.vg_model.specs.Graph.{next_nodes, error_drop}
use Rattle.vg_draw.specs.Drawing.{leads_to_drop}
use Rattle.vg_draw.proofs.LineLemmas.{arc_among, length-next_nodes}
use Rattle.vg_draw.proofs.AnyLemmas.{one_found}
use Rattle.vg_draw.proofs.ways.leads_to_drop.Goals as goal

pub returns-then-arc-eq-ERROR_DROP : goal.returns-then-arc-eq-ERROR_DROP
returns-then-arc-eq-ERROR_DROP c =
    let arcs = next_nodes c.args.graph.now c.args.number in
    sym (one_found (λ target. target == error_drop) arcs c.loop-slot.slot (c.arc.result == error_drop)
    (ap (option_map (λ target. target == error_drop)) (arc_among c.args.graph.now c.args.number c.loop-slot.slot c.arc.result c.arc.ensures))
    (eq-eqb c.arc.result error_drop c.if-arc-eq-ERROR_DROP.true))

pub returns : goal.returns
returns c =
    let arcs = next_nodes c.args.graph.now c.args.number in
    let count = length-next_nodes c.args.graph.now c.args.number c.args.kind c.nodes-nodes.ensures.kept.valid c.requires.kind in
    let all : length arcs ≤ c.loop-slot.slot = omega (arith, count, c.slots-slot-end.ensures.count, c.loop-slot-test.false) in
    sym c.loop-slot.invariant ∙ ap leads_to_drop (take_all c.loop-slot.slot arcs all)
