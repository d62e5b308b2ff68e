use Rattle.std.proofs.Common.{◌<◌, length}
use Rattle.vg_replay.specs.Courses.{in_hand}
use Rattle.vg_replay.specs.Replays.{task_of}
use Rattle.vg_replay.specs.Walks.{IsWalked}
use Rattle.vg_replay.proofs.underway.go_on.Given as goal

abbrev pub invariant-legs : goal.invariant-legs
invariant-legs g l = record {
  walked : IsWalked (task_of g.K.KindSet.meaning l.input) l.number l.k (in_hand l.walker);
  more : length l.trip.legs < l.k;
}
