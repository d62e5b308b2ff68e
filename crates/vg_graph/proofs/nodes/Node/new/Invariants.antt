use Rattle.std.proofs.Common.{◌≡◌, replicate}
use Rattle.vg_model.specs.Graph.{error_drop}
use Rattle.vg_graph.proofs.nodes.Node.new.Given as goal

abbrev pub invariant-loop-slot : goal.invariant-loop-slot
invariant-loop-slot l = l.arcs.items ≡ replicate l._slot error_drop
