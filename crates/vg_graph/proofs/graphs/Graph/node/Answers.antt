use Rattle.std.proofs.Common.{◌∙◌, ap}
use Rattle.vg_model.specs.Edit.{node_named, place_of}
use Rattle.vg_graph.proofs.ViewLemmas.{node_place}
use Rattle.vg_graph.proofs.graphs.Graph.node.Goals as goal

pub returns-clause-number : goal.returns-clause-number
returns-clause-number c =
    c.place_named.ensures.place
    ∙ (ap (λ nodes. place_of (λ n. n.name) c.args.name.now nodes) c.as_slice.ensures.value
    ∙ (node_place c.args.name.now c.self.inside.nodes.items ∙ ap (λ g. node_named g c.args.name.now) c.self.view_is))
