use Rattle.std.specs.Prelude.{slice_get}
use Rattle.vg_model.specs.Graph.{Node}
use Rattle.vg_model.proofs.Journeys.{map_some}
use Rattle.vg_graph.proofs.ListLemmas.{all_append}
use Rattle.vg_reporting.proofs.CountLemmas.{counted_more}
use Rattle.vg_reporting.proofs.parts.nodes.Goals as goal

pub loop-n-preserved : goal.loop-n-preserved
loop-n-preserved c =
    let there = map_some (λ (node : Node). node.name) (slice_get c.args.graph.now.nodes c.loop-n.n) c.node_name.result.now c.node_name.ensures in
    let more = counted_more (λ (node : Node). node.name) c.args.graph.now.nodes c.args.counts.now.visits c.loop-n.n there.0 there.1 in
    let same = c.copied.ensures.same in
    let count = c.visits.ensures in
    let number = c.from.ensures in
    let pushed = c.in_ok-push.ensures.items in
    let named = there.2 in
    record {
      counts = cc;
      names = rw c.in_ok-push.ensures.items (all_append _ _ _ c.loop-n.invariant.names c.copied.ensures.name);
    }
