use Rattle.vg_underway.specs.Underway.{stationed}
use Rattle.vg_underway.specs.Hands.{IsGrouping}
use Rattle.vg_underway.proofs.underway.Work.group.Given as goal

abbrev pub invariant-hands : goal.invariant-hands
invariant-hands g l = IsGrouping (stationed g.K.KindSet.meaning l.fork.graph l.fork.generation l.fn.station) l.fn.node l.fn.self l.fn.cache l.fn.hands l.entry-index l.self l.cache l.groups
