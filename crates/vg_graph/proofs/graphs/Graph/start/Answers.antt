use Rattle.std.proofs.Common.{sym, subst, ◌∙◌}
use Rattle.vg_graph.specs.View.{IsKept}
use Rattle.vg_graph.proofs.ViewLemmas.{unrouted_eq, start_kept}
use Rattle.vg_graph.proofs.graphs.Graph.start.Goals as goal

pub invariant_of-result : goal.invariant_of-result
invariant_of-result c = subst IsKept (sym (unrouted_eq _ _ _ _ _ _ c.in_ok-start_nodes.ensures (c.in_ok-vec.ensures.items ∙ sym c.start_interface.ensures) c.new.ensures.items)) start_kept
