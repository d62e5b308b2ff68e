use Rattle.std.proofs.Common.{length}
use Rattle.vg_process.specs.Waiting.{time_at}
use Rattle.vg_process.proofs.timers.Timers.first.Goals as goal

pub returns : goal.returns
returns c =
    let times = c.self.inside.times.items in
    let kept = c.self.invariant in
    rw (← c.self.view_is) (c.first.ensures (length times) (time_at times) kept.queue kept.ahead kept.ready)
