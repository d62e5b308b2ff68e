use Rattle.std.proofs.Common.{◌≤◌, sym, ap, ◌∙◌, arith, ◌<◌}
use Rattle.vg_process.specs.Left.{first_time}
use Rattle.vg_process.proofs.RestLemmas.{rest-over, is_some}
use Rattle.vg_process.proofs.states.State.next_time.Goals as goal

pub returns-then-self : goal.returns-then-self
returns-then-self c =
    let over : c.self.inside.count ≤ c.self.inside.done = omega arith in
    sym (ap first_time (rest-over c.self.inside over)) ∙ ap first_time c.self.view_is

pub time-requires : goal.time-requires
time-requires c =
    let within : c.self.inside.done < c.self.inside.count = omega (arith, c.self.invariant.within) in
    rw (← c.self.view_is) (is_some c.self.inside within)
