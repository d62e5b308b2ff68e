use Rattle.std.proofs.Common.{◌∙◌, sym, ap, subst}
use Rattle.std.specs.Prelude.{Ok}
use Rattle.vg_model.specs.Edit.{with_arc}
use Rattle.vg_graph.specs.NewArc.{IsNewArc}
use Rattle.vg_graph.specs.View.{whole, IsKept}
use Rattle.vg_graph.proofs.KeptLemmas.{arc_kept, arc_written}
use Rattle.vg_graph.proofs.graphs.Graph.set_arc.Goals as goal

pub invariant_of-self : goal.invariant_of-self
invariant_of-self c =
    let arc = c.in_ok-arc.arc in
    let new : IsNewArc (whole c.self.inside) c.args.from.now c.args.slot.now c.args.to.now arc =
    subst (λ g. IsNewArc g c.args.from.now c.args.slot.now c.args.to.now arc) (sym c.self.view_is) c.in_ok-arc.ensures in
    subst (λ l. IsKept (record (whole c.self.inside) { nodes = l }))
    (sym (arc_written c.self.inside.nodes.items arc.node arc.slot arc.target c.index_mut.result.now c.set_arc.new.self new.node c.index_mut.ensures.value new.here
    c.set_arc.ensures.name c.set_arc.ensures.kind c.set_arc.ensures.arcs))
    (arc_kept (whole c.self.inside) arc.node arc.slot arc.target new.node new.here c.self.invariant new.target new.test)

pub returns-clause-answer : goal.returns-clause-answer
returns-clause-answer c =
    let arc = c.in_ok-arc.arc in
    let new : IsNewArc (whole c.self.inside) c.args.from.now c.args.slot.now c.args.to.now arc =
    subst (λ g. IsNewArc g c.args.from.now c.args.slot.now c.args.to.now arc) (sym c.self.view_is) c.in_ok-arc.ensures in
    ap (λ g. with_arc g c.args.from.now c.args.slot.now c.args.to.now) (sym c.self.view_is)
    ∙ (new.edit
    ∙ ap (λ l. Ok (record (whole c.self.inside) { nodes = l }))
    (sym (arc_written c.self.inside.nodes.items arc.node arc.slot arc.target c.index_mut.result.now c.set_arc.new.self new.node c.index_mut.ensures.value new.here
    c.set_arc.ensures.name c.set_arc.ensures.kind c.set_arc.ensures.arcs)))
