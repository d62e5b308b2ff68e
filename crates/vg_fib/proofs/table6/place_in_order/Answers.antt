use Rattle.std.proofs.Common.{◌≡◌, ◌+◌, ◌-◌, ◌/◌, ◌<◌, ℕ, length, arith, inl, inr}
use Rattle.std.proofs.lemmas.Bool.{cases_order, iff_false}
use Rattle.vg_model.specs.Route.{ip6}
use Rattle.vg_fib.specs.Order.{rank, ranks, rank_at, IsGap}
use Rattle.vg_fib.proofs.PrefixLemmas.{are6}
use Rattle.vg_fib.proofs.OrderLemmas.{rank_read, lower_up_to, higher_from, place_found, gap_none}
use Rattle.vg_fib.proofs.table6.place_in_order.Goals as goal

pub loop-from-preserved-then-comes_before : goal.loop-from-preserved-then-comes_before
loop-from-preserved-then-comes_before c =
    let middle : ℕ = c.loop-from.from + (c.loop-from.to - c.loop-from.from) / 2 in
    let inside : middle < length c.args.order.now = omega (arith, c.loop-from.invariant.inside, c.loop-from-test.true) in
    let here = rank_read are6 c.args.routes.now c.args.order.now middle c.from.result c.index-routes-from.result c.requires inside c.from.ensures c.index-routes-from.is in
    record {
      range = omega (arith, c.loop-from-test.true);
      inside = c.loop-from.invariant.inside;
      lower = lower_up_to (ranks ip6 c.args.routes.now) c.args.order.now middle (rank ip6 c.args.prefix) c.requires inside
          (omega (arith, here, c.comes_before.ensures.0 c.if-comes_before.true));
      higher = c.loop-from.invariant.higher;
    }

pub loop-from-preserved : goal.loop-from-preserved
loop-from-preserved c =
    let middle : ℕ = c.loop-from.from + (c.loop-from.to - c.loop-from.from) / 2 in
    let inside : middle < length c.args.order.now = omega (arith, c.loop-from.invariant.inside, c.loop-from-test.true) in
    let here = rank_read are6 c.args.routes.now c.args.order.now middle c.from.result c.index-routes-from.result c.requires inside c.from.ensures c.index-routes-from.is in
    let above : rank ip6 c.args.prefix < rank_at (ranks ip6 c.args.routes.now) c.args.order.now middle =
    omega (arith, here, c.comes_before-else-comes_before.ensures.0 c.if-comes_before-2.true) in
    record {
      range = omega arith;
      inside = omega (arith, inside);
      lower = c.loop-from.invariant.lower;
      higher = higher_from (ranks ip6 c.args.routes.now) c.args.order.now middle (rank ip6 c.args.prefix) c.requires above;
    }

pub returns-else-comes_before-2 : goal.returns-else-comes_before-2
returns-else-comes_before-2 c =
    let middle : ℕ = c.loop-from.from + (c.loop-from.to - c.loop-from.from) / 2 in
    let inside : middle < length c.args.order.now = omega (arith, c.loop-from.invariant.inside, c.loop-from-test.true) in
    let here = rank_read are6 c.args.routes.now c.args.order.now middle c.from.result c.index-routes-from.result c.requires inside c.from.ensures c.index-routes-from.is in
    let same : rank_at (ranks ip6 c.args.routes.now) c.args.order.now middle ≡ rank ip6 c.args.prefix =
    elim (cases_order (rank_at (ranks ip6 c.args.routes.now) c.args.order.now middle) (rank ip6 c.args.prefix)) [
      | inl e ↦ e
      | inr other ↦ elim other [
        | inl below ↦ absurd (iff_false c.comes_before.ensures c.if-comes_before.false (omega (arith, here, below)))
        | inr above ↦ absurd (iff_false c.comes_before-else-comes_before.ensures c.if-comes_before-2.false (omega (arith, here, above)))
      ]
    ] in
    (inside, place_found are6 c.args.prefix c.args.routes.now c.args.order.now middle c.requires (record { inside = inside; is = same }))

pub returns : goal.returns
returns c =
    let gap : IsGap (ranks ip6 c.args.routes.now) c.args.order.now (rank ip6 c.args.prefix) c.loop-from.from = record {
      inside = omega (arith, c.loop-from.invariant.range, c.loop-from.invariant.inside);
      lower = c.loop-from.invariant.lower;
      higher = λ k h inside. c.loop-from.invariant.higher k (omega (arith, c.loop-from-test.false, h)) inside;
    } in
    (gap_none are6 c.args.prefix c.args.routes.now c.args.order.now c.loop-from.from c.requires gap, gap)
