use Rattle.std.proofs.Common.{◌≡◌, ◌-◌, ◌≤◌, drop}
use Rattle.vg_replay.specs.Replays.{task_of}
use Rattle.vg_replay.specs.Underway.{AreUnderway, IsScheduled}
use Rattle.vg_replay.proofs.replaying.pass_all.Given as goal

abbrev pub invariant-generations : goal.invariant-generations
invariant-generations g l = record {
  underway : AreUnderway (task_of g.K.KindSet.meaning l.input) l.input.traced (IsScheduled l.generation l.underway.schedule) l.underway;
  left : l.generations ≡ drop (l.generation - 1) l.input.plan.now.graphs;
  some : 1 ≤ l.generation;
}
