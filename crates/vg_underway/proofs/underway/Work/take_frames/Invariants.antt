use Rattle.vg_underway.specs.Underway.{stationed}
use Rattle.vg_underway.proofs.TakingLemmas.{IsTaking}
use Rattle.vg_underway.proofs.underway.Work.take_frames.Given as goal

abbrev pub invariant-places : goal.invariant-places
invariant-places g l =
    IsTaking (stationed g.K.KindSet.meaning l.fork.graph l.fork.generation l.fn.station) l.bounds l.tried l.fn.self l.fn.inputs l.place l.self l.inputs l.came
