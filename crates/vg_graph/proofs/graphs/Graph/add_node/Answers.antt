use Rattle.std.proofs.Common.{◌∙◌, refl, sym, ap, length, replicate}
use Rattle.vg_model.specs.Graph.{slots, error_drop}
use Rattle.vg_model.specs.Edit.{node_named}
use Rattle.vg_graph.specs.View.{whole}
use Rattle.vg_graph.proofs.KeptLemmas.{node_kept, is_none}
use Rattle.vg_graph.proofs.graphs.Graph.add_node.Goals as goal

pub invariant_of-self : goal.invariant_of-self
invariant_of-self c =
    node_kept (whole c.self.inside) c.self.inside.nodes.items c.append.new.list.items c.new.result c.append.result c.self.invariant refl
    (c.new.ensures.arcs ∙ ap (λ k. replicate (length (slots k)) error_drop) (sym c.new.ensures.kind))
    (ap (node_named (whole c.self.inside)) (c.new.ensures.name ∙ c.copied.ensures.same)
    ∙ (ap (λ g. node_named g c.args.name.now) c.self.view_is ∙ (sym c.node.ensures.number ∙ is_none c.node.result (sym c.is_some.ensures ∙ c.if-is_some.false))))
    c.append.ensures.answer c.append.ensures.same
