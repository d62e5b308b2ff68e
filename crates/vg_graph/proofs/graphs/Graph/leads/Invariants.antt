use Rattle.vg_graph.specs.Reach.{effort}
use Rattle.vg_graph.proofs.SearchLemmas.{IsSearch}
use Rattle.vg_graph.proofs.graphs.Graph.leads.Given as goal

abbrev pub invariant-loop-node : goal.invariant-loop-node
invariant-loop-node l = IsSearch l.self l.from l.search

abbrev pub decreases-loop-node : goal.decreases-loop-node
decreases-loop-node l = effort l.search
