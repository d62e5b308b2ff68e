use Rattle.std.proofs.Common.{sym, ap}
use Rattle.vg_process.specs.Left.{first_time}
use Rattle.vg_process.proofs.FirstLemmas.{left-none, first_time-left}
use Rattle.vg_process.proofs.schedule.Processes.next_time.Goals as goal

pub returns-in_err-first : goal.returns-in_err-first
returns-in_err-first c =
    let none = rw c.self.invariant.times at c.in_err-first.ensures in
    rw (c.from_residual.ensures, ← c.self.view_is) (sym (ap first_time (left-none c.self.inside.states.items none)))

pub returns : goal.returns
returns c =
    let first = rw c.self.invariant.times at c.in_ok-first.ensures in
    rw (← c.self.view_is) (sym (first_time-left c.self.inside.states.items c.self.invariant.orderly c.in_ok-first.first first))
