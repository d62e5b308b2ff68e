use Rattle.std.proofs.Common.{length, ◌-◌, ◌^◌}
use Rattle.vg_process.specs.Queued.{IsQueue, IsAhead}
use Rattle.vg_process.specs.Waiting.{time_at}
use Rattle.vg_process.proofs.queue.Queue.look_ahead.Given as goal

abbrev pub invariant-loop-self : goal.invariant-loop-self
invariant-loop-self l = record {
  queue : IsQueue (length l.times) (time_at l.times) l.self;
  ahead : IsAhead l.self;
}

-- the wheel's time goes up
abbrev pub decreases-loop-self : goal.decreases-loop-self
decreases-loop-self l = 2 ^ 64 - l.self.wheel.elapsed
