use Rattle.std.proofs.Common.{◌∙◌, sym, ap}
use Rattle.vg_model.specs.Edit.{interface_named}
use Rattle.vg_graph.specs.View.{whole}
use Rattle.vg_graph.proofs.KeptLemmas.{interface_kept}
use Rattle.vg_graph.proofs.graphs.Graph.set_interface.Goals as goal

pub invariant_of-self : goal.invariant_of-self
invariant_of-self c =
    interface_kept (whole c.self.inside) c.args.interface c.interface-place.result c.put.new.list.items c.put.result c.self.invariant c.requires
    (c.interface-place.ensures.number ∙ ap (λ g. interface_named g c.args.interface.name) (sym c.self.view_is)) c.put.ensures.answer c.put.ensures.same
