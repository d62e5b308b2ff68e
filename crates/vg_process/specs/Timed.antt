-- How places that wait are kept (this project's profile).
use Rattle.std.specs.Prelude.{length}
use Rattle.vg_process.specs.declared.timers.Timers.TheInside.{Inside}
use Rattle.vg_process.specs.Queued.{IsQueue, IsAhead, IsReady}
use Rattle.vg_process.specs.Waiting.{time_at}

-- each place that waits is in the queue, and the first is in its list
pub record IsTimed (t : Inside) : Type 0 where
  pub queue : IsQueue (length t.times.items) (time_at t.times.items) t.queue
  pub ahead : IsAhead t.queue
  pub ready : IsReady t.queue
