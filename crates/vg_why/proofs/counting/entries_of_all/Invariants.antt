-- For `entries_of_all`: its loop.
use Rattle.std.proofs.Common.{◌≡◌, List}
use Rattle.vg_model.specs.Journey.{Journey}
use Rattle.vg_why.specs.Journeys.{AreEntries}
use Rattle.vg_why.specs.Trips.{gone_of, AreTrips}
use Rattle.vg_why.proofs.counting.entries_of_all.Given as goal

-- what is counted of the packets so far
abbrev pub invariant-loop-number : goal.invariant-loop-number
invariant-loop-number g l = record {
  plan : l.stages.plan ≡ l.input.plan.now;
  entries : (js : List Journey) → AreTrips (gone_of g.K.KindSet.meaning l.input js) l.input.lines.now l.trips
      → AreEntries (gone_of g.K.KindSet.meaning l.input js) l.number l.entries.items;
}
