use Rattle.std.proofs.lemmas.Option.{slice_get-get_or}
use Rattle.vg_graph.proofs.SearchLemmas.{reaches_more}
use Rattle.vg_graph.proofs.search.Search.reach_all.Goals as goal

pub loop-node-preserved : goal.loop-node-preserved
loop-node-preserved c =
    reaches_more _ _ _ c.args.nodes.now c.loop-node.node-index _ (slice_get-get_or c.args.nodes.now c.loop-node.node-index 0 c.loop-node-test.true)
    c.loop-node.invariant c.reach.ensures
