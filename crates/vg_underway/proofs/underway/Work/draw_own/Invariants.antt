use Rattle.std.proofs.Common.{◌≡◌, ◌≤◌, ◌-◌, ◌++◌, take, drop}
use Rattle.vg_journeys.specs.Windows.{next_draws, mark_behind}
use Rattle.vg_underway.specs.Underway.{stationed}
use Rattle.vg_underway.specs.Draws.{IsEntered, CanDrawOwn, AreBelow, AreChained}
use Rattle.vg_underway.specs.OwnPackets.{captured_extent, own_from, frames_of}
use Rattle.vg_underway.proofs.underway.Work.draw_own.Given as goal

abbrev pub invariant-draws : goal.invariant-draws
invariant-draws g l = record {
  drawn : (from : CanDrawOwn (stationed g.K.KindSet.meaning l.fork.graph l.fork.generation l.fn.station) l.mark l.limit l.most l.packets l.fn.self l.fn.cache)
      → IsEntered (stationed g.K.KindSet.meaning l.fork.graph l.fork.generation l.fn.station) (from.before ++ next_draws l.fn.station.workers l.mark l.drew.count (frames_of l.packets))
      from.start from.start_cache l.self l.cache;
  most : l.drew.count ≤ l.most;
  mark : l.drew.mark ≡ mark_behind l.fn.station.workers l.mark l.drew.count;
  below : AreBelow l.fn.station.workers l.mark l.limit l.drew.count;
  own : own_from l.fn.station.workers l.drew.mark l.packets ≡ drop l.drew.count (own_from l.fn.station.workers l.mark l.packets);
  chained : AreChained l.fn.station.workers l.mark l.drew.count (frames_of l.packets) l.fn.cache.len l.cache.len;
  bytes : l.drew.bytes ≡ captured_extent (take l.drew.count (own_from l.fn.station.workers l.mark l.packets));
}

abbrev pub decreases-draws : goal.decreases-draws
decreases-draws g l = l.most - l.drew.count
