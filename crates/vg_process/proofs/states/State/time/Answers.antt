use Rattle.std.proofs.Common.{◌+◌, ◌*◌, ◌≤◌, ap, arith}
use Rattle.std.proofs.Math.Nat.{mul-le-mul_right}
use Rattle.vg_process.specs.Left.{first_time}
use Rattle.vg_process.proofs.RestLemmas.{rest-next, is_within}
use Rattle.vg_process.proofs.states.State.time.Goals as goal

pub overflow_mul-result : goal.overflow_mul-result
overflow_mul-result c =
    let s = c.self.inside in
    let within = is_within s (rw c.self.view_is c.requires) in
    let least : (c.from.result + 1) * s.every ≤ s.count * s.every = mul-le-mul_right s.every (omega (arith, c.from.ensures)) in
    omega (arith, c.self.invariant.fits)

pub returns : goal.returns
returns c =
    let s = c.self.inside in
    let within = is_within s (rw c.self.view_is c.requires) in
    rw (← c.self.view_is, c.from.ensures) (ap first_time (rest-next s within))
