-- For `ways`: its loop.
use Rattle.std.proofs.Common.{◌≡◌, ◌≤◌, List}
use Rattle.vg_model.specs.Journey.{Journey}
use Rattle.vg_capture.specs.Time.{stamp_at}
use Rattle.vg_ways.specs.Clocks.{latest_before}
use Rattle.vg_why.specs.Asked.{asked_shown}
use Rattle.vg_why.specs.Trips.{gone_of, AreTrips}
use Rattle.vg_why.proofs.WayLemmas.{AreSoFar}
use Rattle.vg_why.proofs.ways.ways.Given as goal

-- the ways of the packets so far, and how many of them were transmitted
abbrev pub invariant-loop-number : goal.invariant-loop-number
invariant-loop-number g l = record {
  plan : l.room.stages.plan ≡ l.input.plan.now;
  first : l.clock.first ≡ stamp_at l.input.capture.now 0;
  latest : l.clock.latest ≡ latest_before l.input.capture.now l.number;
  few : l.index ≤ l.number;
  text : (js : List Journey) → AreTrips (gone_of g.K.KindSet.meaning l.input js) l.input.lines.now l.trips
      → AreSoFar (gone_of g.K.KindSet.meaning l.input js) l.names (asked_shown l.asked) l.number l.index l.room.out.items;
}
