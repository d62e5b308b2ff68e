use Rattle.std.proofs.Common.{drop}
use Rattle.vg_replay.specs.Replays.{task_of}
use Rattle.vg_replay.specs.Underway.{AreUnderway, IsDue}
use Rattle.vg_replay.proofs.underway.Underway.take_all.Given as goal

abbrev pub invariant-numbers : goal.invariant-numbers
invariant-numbers g l = AreUnderway (task_of g.K.KindSet.meaning l.input) l.input.traced (IsDue l.fork.generation (drop l.place l.numbers) l.self.schedule) l.self
