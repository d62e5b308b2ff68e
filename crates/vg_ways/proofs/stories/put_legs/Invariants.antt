-- For `put_legs`: its loop.
use Rattle.vg_ways.proofs.StoryLemmas.{IsOnTheWay}
use Rattle.vg_ways.proofs.stories.put_legs.Given as goal

abbrev pub invariant-loop-leg : goal.invariant-loop-leg
invariant-loop-leg g l =
    IsOnTheWay
    (record {
      visit = g.K.KindSet.meaning;
      plan = l.initial.stages.plan;
      workers = l.workers;
      legs = l.legs;
      visits = l.initial.rest;
      packet = l.initial.chain;
      pieces = l.initial.pieces.items;
    })
    l.leg-index
    (record { plan = l.stages.plan; rest = l.rest; packet = l.chain; pieces = l.pieces.items })
