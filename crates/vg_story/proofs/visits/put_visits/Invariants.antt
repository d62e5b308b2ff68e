-- For `put_visits`: some of the visits are made.
use Rattle.vg_story.proofs.VisitLemmas.{IsThrough}
use Rattle.vg_story.proofs.visits.put_visits.Given as goal

abbrev pub invariant-loop-node : goal.invariant-loop-node
invariant-loop-node g l =
    IsThrough
    (record {
      visit = g.K.KindSet.meaning;
      stage = l.stage;
      workers = l.workers;
      nodes = l.nodes;
      packet = l.initial.chain;
      pieces = l.initial.pieces.items;
    })
    l.node-index
    (record { packet = l.chain; pieces = l.pieces.items })
