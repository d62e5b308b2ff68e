use Rattle.std.proofs.Common.{◌<◌, ◌∙◌, sym, ap, subst, length}
use Rattle.vg_model.specs.Edit.{adjacency_named}
use Rattle.vg_graph.specs.View.{whole}
use Rattle.vg_graph.proofs.KeptLemmas.{adjacency_kept}
use Rattle.vg_graph.proofs.graphs.Graph.set_adjacency.Goals as goal

pub invariant_of-self : goal.invariant_of-self
invariant_of-self c =
    adjacency_kept (whole c.self.inside) c.args.adjacency c.adjacency-place.result c.put.new.list.items c.put.result c.self.invariant c.requires.mac
    (subst (λ g. c.args.adjacency.interface < length g.interfaces) (sym c.self.view_is) c.requires.interface)
    (c.adjacency-place.ensures.number ∙ ap (λ g. adjacency_named g c.args.adjacency.name) (sym c.self.view_is)) c.put.ensures.answer c.put.ensures.same
