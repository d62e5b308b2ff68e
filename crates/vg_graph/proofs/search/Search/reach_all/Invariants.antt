use Rattle.vg_graph.specs.Reach.{Reaches}
use Rattle.vg_graph.proofs.search.Search.reach_all.Given as goal

abbrev pub invariant-loop-node : goal.invariant-loop-node
invariant-loop-node l = Reaches l.fn.self l.self l.nodes l.node-index
