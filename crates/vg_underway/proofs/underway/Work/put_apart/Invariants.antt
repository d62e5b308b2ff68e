use Rattle.std.proofs.Common.{◌++◌, length, map, drop}
use Rattle.vg_underway.specs.Underway.{stationed}
use Rattle.vg_underway.specs.Works.{IsPutAway, hand_of, without_next, without_tx, without_drops, next_step, tx_step, drop_step}
use Rattle.vg_underway.proofs.underway.Work.put_apart.Given as goal

abbrev pub invariant-next : goal.invariant-next
invariant-next g l =
    IsPutAway (stationed g.K.KindSet.meaning l.fork.graph l.fork.generation l.fn.station) l.node l.fn.self l.fn.cache (hand_of l.sorted) l.self l.cache
    (map next_step l.going ++ without_next l.sorted)

abbrev pub decreases-next : goal.decreases-next
decreases-next g l = length l.going

abbrev pub invariant-sent : goal.invariant-sent
invariant-sent g l =
    IsPutAway (stationed g.K.KindSet.meaning l.fork.graph l.fork.generation l.fn.station) l.node l.fn.self l.fn.cache (hand_of l.sorted) l.self l.cache
    (map tx_step (drop l.entry-index l.sorted.tx) ++ without_tx l.sorted)

abbrev pub invariant-dropped : goal.invariant-dropped
invariant-dropped g l =
    IsPutAway (stationed g.K.KindSet.meaning l.fork.graph l.fork.generation l.fn.station) l.node l.fn.self l.fn.cache (hand_of l.sorted) l.self l.cache
    (map drop_step (drop l.entry-index l.sorted.drops) ++ without_drops l.sorted)
