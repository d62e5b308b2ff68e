use Rattle.std.proofs.Common.{◌≡◌, map, take}
use Rattle.vg_check.specs.Output.{node_name}
use Rattle.vg_reporting.proofs.parts.names.Given as goal

abbrev pub invariant-loop-node : goal.invariant-loop-node
invariant-loop-node l = l.names.items ≡ map (node_name l.graph) (take l.node-index l.nodes)
