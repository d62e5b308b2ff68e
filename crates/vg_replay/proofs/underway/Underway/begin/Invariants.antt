use Rattle.std.proofs.Common.{◌≡◌, length}
use Rattle.vg_model.specs.Visit.{Visit}
use Rattle.vg_replay.specs.Replays.{task_of}
use Rattle.vg_replay.specs.Underway.{AreOnTheWay, IsScheduled}
use Rattle.vg_replay.proofs.underway.Underway.begin.Given as goal

abbrev pub invariant-packets : goal.invariant-packets
invariant-packets l = record {
  way : (visit : Visit) → AreOnTheWay (task_of visit l.input) l.input.traced (IsScheduled 0 l.self.schedule) l.self;
  size : length l.self.schedule ≡ length l.input.plan.now.graphs;
  stuck : l.self.stuck ≡ l.number;
  count : length l.self.trips ≡ l.number;
}
