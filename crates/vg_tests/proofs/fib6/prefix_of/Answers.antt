use Rattle.std.proofs.Common.{◌≡◌, ◌<◌, ◌≤◌, ℕ, ◌-◌, ◌*◌, ◌/◌, ◌%◌, ◌^◌, arith, rules}
use Rattle.std.proofs.Math.Nat.{div-mul-le_self, mod-eq_of_lt, mul-mod_left}
use Rattle.vg_tests.proofs.fib6.prefix_of.Goals as goal

pub invariant_of-result-2 : goal.invariant_of-result-2
invariant_of-result-2 c =
    let d : ℕ = 2 ^ (128 - c.args.len) in
    let bound : c.args.address < 2 ^ 128 = search rules in
    let low : c.args.address / d * d ≤ c.args.address = div-mul-le_self c.args.address d in
    let same : (c.args.address / d * d) % 2 ^ 128 ≡ c.args.address / d * d = mod-eq_of_lt (omega (arith, bound, low)) in
    record { few = c.requires; host_bits = rw same (mul-mod_left (c.args.address / d) d) }
