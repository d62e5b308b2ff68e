-- For `put_visits`: one visit more.
use Rattle.vg_story.proofs.VisitLemmas.{one_visit_more}
use Rattle.vg_story.proofs.visits.put_visits.Goals as goal

pub loop-node-preserved : goal.loop-node-preserved
loop-node-preserved g c =
    one_visit_more _ c.loop-node.node-index _ _ c.loop-node.invariant
    (record { within = c.loop-node-test.true; shown = c.in_ok-put_visit.ensures.pieces; visited = c.in_ok-put_visit.ensures.packet })
