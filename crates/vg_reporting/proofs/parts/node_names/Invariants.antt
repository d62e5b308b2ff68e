use Rattle.std.proofs.Common.{◌≡◌, map, take}
use Rattle.vg_reporting.proofs.parts.node_names.Given as goal

abbrev pub invariant-loop-n : goal.invariant-loop-n
invariant-loop-n l = l.names.items ≡ map (λ node. node.name) (take l.n l.graph.nodes)
