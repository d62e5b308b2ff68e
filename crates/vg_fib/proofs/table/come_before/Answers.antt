-- For `come_before`: no prefix is in the order, or the last one decides.
use Rattle.std.proofs.Common.{◌-◌, ◌<◌, ◌≤◌, ℕ, length, ltb-true, arith}
use Rattle.std.proofs.lemmas.Bool.Decides.{nat_tests}
use Rattle.vg_model.specs.Route.{ip4}
use Rattle.vg_fib.specs.Order.{ranks, rank_at}
use Rattle.vg_fib.proofs.PrefixLemmas.{are4}
use Rattle.vg_fib.proofs.OrderLemmas.{rank_read, lower_up_to}
use Rattle.vg_fib.proofs.table.come_before.Goals as goal

pub returns-then-is_empty : goal.returns-then-is_empty
returns-then-is_empty c =
    let none : length c.args.order.now ≤ 0 = grind (arith, nat_tests, c.is_empty.ensures, c.if-is_empty.true) in
    λ _. record {
      inside = omega arith;
      lower = λ k h. absurd (omega (arith, none, h));
      higher = λ k h inside. absurd (omega (arith, h, inside));
    }

pub returns : goal.returns
returns c =
    let last : ℕ = length c.args.order.now - 1 in
    let inside : last < length c.args.order.now = grind (arith, nat_tests, c.is_empty.ensures, c.if-is_empty.false) in
    let here = rank_read are4 c.args.routes.now c.args.order.now last c.from.result c.index-routes-from.result c.requires inside c.from.ensures c.index-routes-from.is in
    λ test.
    let less : rank_at (ranks ip4 c.args.routes.now) c.args.order.now last < c.args.wanted = omega (arith, here, c.rank.ensures, ltb-true c.rank.result c.args.wanted test) in
    record {
      inside = omega arith;
      lower = λ k h. lower_up_to (ranks ip4 c.args.routes.now) c.args.order.now last c.args.wanted c.requires inside less k (omega (arith, h));
      higher = λ k h within. absurd (omega (arith, h, within));
    }
