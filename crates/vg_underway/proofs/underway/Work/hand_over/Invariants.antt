use Rattle.std.proofs.Common.{◌≡◌, ◌+◌, ◌++◌, List, length}
use Rattle.vg_pool.specs.Contents.{Contents}
use Rattle.vg_underway.specs.Hands.{all_chains}
use Rattle.vg_underway.specs.Underway.{stationed}
use Rattle.vg_underway.proofs.HandAllLemmas.{IsLifting, RefusesAll}
use Rattle.vg_underway.proofs.underway.Work.hand_over.Given as goal

abbrev pub invariant-lifted : goal.invariant-lifted
invariant-lifted g l = IsLifting (stationed g.K.KindSet.meaning l.fork.graph l.fork.generation l.fn.station) l.node l.to l.fn.self l.index-items l.index-index l.packets l.self

abbrev pub invariant-refused : goal.invariant-refused
invariant-refused g l = record {
  done : List Contents;
  split : l.initial.refused ≡ done ++ l.refused;
  all : RefusesAll l.node l.accepted done l.initial.self l.self;
  cache : l.cache ≡ record l.initial.cache { len = l.initial.cache.len + all_chains done; freed = l.initial.cache.freed + all_chains done };
}

abbrev pub decreases-refused : goal.decreases-refused
decreases-refused g l = length l.refused
