use Rattle.vg_replay.proofs.LegLemmas.{IsOnTheWay, visits_left}
use Rattle.vg_replay.proofs.legs.walk_leg.Given as goal

abbrev pub invariant-nodes : goal.invariant-nodes
invariant-nodes g l =
    IsOnTheWay g.K.KindSet.meaning l.fork.graph l.fn.at l.fn.first l.initial.buffer.packet l.initial.visits.items l.node l.buffer.packet l.visits.items

abbrev pub decreases-nodes : goal.decreases-nodes
decreases-nodes g l = visits_left g.K.KindSet.meaning l.fork.graph l.fn.at l.node l.buffer.packet
