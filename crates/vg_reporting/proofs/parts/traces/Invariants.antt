use Rattle.std.proofs.Common.{◌≡◌, map, take}
use Rattle.vg_check.specs.Output.{node_name}
use Rattle.vg_reporting.proofs.parts.traces.Given as goal

abbrev pub invariant-loop-nodes : goal.invariant-loop-nodes
invariant-loop-nodes l = l.traces.items ≡ map (λ nodes. map (node_name l.graph) nodes.items) (take l.nodes-index l.lists)
