use Rattle.std.proofs.Common.{length, ◌≤◌, max}
use Rattle.futures.specs.LinkedLists.Wheel.{armed_count}
use Rattle.vg_process.specs.Queued.{IsQueue}
use Rattle.vg_process.specs.Waiting.{time_at}
use Rattle.vg_process.proofs.queue.Queue.gather.Given as goal

abbrev pub invariant-loop-place : goal.invariant-loop-place
invariant-loop-place l = record {
  queue : IsQueue (length l.times) (time_at l.times) l.self;
  from : l.initial.self.wheel.elapsed ≤ l.self.wheel.elapsed;
  to : l.self.wheel.elapsed ≤ max l.initial.self.wheel.elapsed l.now;
}

abbrev pub decreases-loop-place : goal.decreases-loop-place
decreases-loop-place l = armed_count l.self.wheel
