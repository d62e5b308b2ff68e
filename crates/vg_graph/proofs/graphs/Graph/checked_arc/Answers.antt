use Rattle.std.proofs.Common.{◌∙◌, sym, ap}
use Rattle.vg_model.specs.Graph.{slots}
use Rattle.vg_model.specs.Edit.{place_of}
use Rattle.vg_graph.proofs.KeptLemmas.{new_arc, passed}
use Rattle.vg_graph.proofs.graphs.Graph.checked_arc.Goals as goal

pub returns : goal.returns
returns c =
    new_arc c.args.self.now c.args.from.now c.args.slot.now c.args.to.now _ c.kind.result c.kind-2.result
    (sym c.node.ensures.number ∙ passed c.node.result _ c.in_ok-node.node (sym c.ok_or.ensures.value ∙ c.in_ok-node.was))
    c.kind.ensures
    (ap (λ n. place_of (λ slot. slot) n (slots c.kind.result)) (sym c.bytes.ensures.bytes) ∙ (sym c.slot.ensures ∙ passed c.slot.result _ c.in_ok-slot.slot (sym c.ok_or-2.ensures.value ∙ c.in_ok-slot.was)))
    (sym c.node-2.ensures.number ∙ passed c.node-2.result _ c.in_ok-target.target (sym c.ok_or-3.ensures.value ∙ c.in_ok-target.was))
    c.kind-2.ensures (sym c.is_source.ensures ∙ c.if-is_source.false) (sym c.leads.ensures ∙ c.if-leads.false)
