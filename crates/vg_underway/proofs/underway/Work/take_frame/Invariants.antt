use Rattle.std.proofs.Common.{◌≡◌, ◌++◌, List, length, map}
use Rattle.std.specs.List.{AllByRecursion}
use Rattle.vg_model.specs.PoolBook.{CacheBook}
use Rattle.vg_pool.specs.Contents.{Contents}
use Rattle.vg_journeys.specs.Trips.{Taken}
use Rattle.vg_journeys.specs.Accounts.{frame_arrivals}
use Rattle.vg_hands.specs.Handed.{IsHanded}
use Rattle.vg_underway.specs.Underway.{stationed}
use Rattle.vg_underway.specs.Draws.{IsUnderway, IsEntered}
use Rattle.vg_underway.proofs.underway.Work.take_frame.Given as goal

abbrev pub invariant-packets : goal.invariant-packets
invariant-packets g l = record {
  done : List Contents;
  split : l.fn.frame.packets ≡ done ++ l.packets;
  node : l.node ≡ l.fn.frame.node;
  each : AllByRecursion (IsHanded l.fn.frame.generation) l.packets;
  entered : (cache : CacheBook) (from : IsUnderway (stationed g.K.KindSet.meaning l.fork.graph l.fork.generation l.fn.station) (frame_arrivals l.fn.station.worker l.fn.frame) l.fn.self cache)
      → IsEntered (stationed g.K.KindSet.meaning l.fork.graph l.fork.generation l.fn.station) (from.before ++ map (Taken l.fn.station.worker l.fn.frame.node) done) from.start from.start_cache l.self cache;
}

abbrev pub decreases-packets : goal.decreases-packets
decreases-packets g l = length l.packets
