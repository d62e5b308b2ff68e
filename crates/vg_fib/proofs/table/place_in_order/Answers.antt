-- For `place_in_order`: behind all, and the search by halves.
use Rattle.std.proofs.Common.{◌+◌, ◌-◌, ◌/◌, ◌<◌, ℕ, length, sym, subst, ◌∙◌, arith, inl, inr}
use Rattle.std.proofs.lemmas.Bool.{cases_order}
use Rattle.vg_model.specs.Route.{ip4}
use Rattle.vg_fib.specs.Order.{rank, ranks, rank_at, IsGap}
use Rattle.vg_fib.proofs.PrefixLemmas.{are4}
use Rattle.vg_fib.proofs.OrderLemmas.{rank_read, lower_up_to, higher_from, place_found, gap_none}
use Rattle.vg_fib.proofs.table.place_in_order.Goals as goal

pub loop-from-preserved-then-here-wanted-2 : goal.loop-from-preserved-then-here-wanted-2
loop-from-preserved-then-here-wanted-2 c =
    let middle : ℕ = c.loop-from.from + (c.loop-from.to - c.loop-from.from) / 2 in
    let inside : middle < length c.args.order.now = omega (arith, c.loop-from.invariant.inside, c.loop-from-test.true) in
    let here = rank_read are4 c.args.routes.now c.args.order.now middle c.from.result c.index-routes-from.result c.requires inside c.from.ensures c.index-routes-from.is in
    record {
      range = omega (arith, c.loop-from-test.true);
      inside = c.loop-from.invariant.inside;
      lower = lower_up_to (ranks ip4 c.args.routes.now) c.args.order.now middle c.rank-wanted.result c.requires inside (omega (arith, here, c.rank-here.ensures, c.if-here-wanted-2.true));
      higher = c.loop-from.invariant.higher;
    }

pub loop-from-preserved : goal.loop-from-preserved
loop-from-preserved c =
    let middle : ℕ = c.loop-from.from + (c.loop-from.to - c.loop-from.from) / 2 in
    let inside : middle < length c.args.order.now = omega (arith, c.loop-from.invariant.inside, c.loop-from-test.true) in
    let here = rank_read are4 c.args.routes.now c.args.order.now middle c.from.result c.index-routes-from.result c.requires inside c.from.ensures c.index-routes-from.is in
    let above : c.rank-wanted.result < rank_at (ranks ip4 c.args.routes.now) c.args.order.now middle = elim (cases_order c.rank-here.result c.rank-wanted.result) [
      | inl same ↦ absurd (c.if-here-wanted.false same)
      | inr other ↦ omega (arith, here, c.rank-here.ensures, c.if-here-wanted-2.false, other)
    ] in
    record {
      range = omega arith;
      inside = omega (arith, inside);
      lower = c.loop-from.invariant.lower;
      higher = higher_from (ranks ip4 c.args.routes.now) c.args.order.now middle c.rank-wanted.result c.requires above;
    }

pub returns-then-come_before : goal.returns-then-come_before
returns-then-come_before c =
    let gap : IsGap (ranks ip4 c.args.routes.now) c.args.order.now (rank ip4 c.args.prefix) (length c.args.order.now) =
    subst (λ r. IsGap (ranks ip4 c.args.routes.now) c.args.order.now r (length c.args.order.now)) c.rank-wanted.ensures (c.come_before.ensures c.if-come_before.true) in
    (gap_none are4 c.args.prefix c.args.routes.now c.args.order.now (length c.args.order.now) c.requires gap, gap)

pub returns-then-here-wanted : goal.returns-then-here-wanted
returns-then-here-wanted c =
    let middle : ℕ = c.loop-from.from + (c.loop-from.to - c.loop-from.from) / 2 in
    let inside : middle < length c.args.order.now = omega (arith, c.loop-from.invariant.inside, c.loop-from-test.true) in
    let here = rank_read are4 c.args.routes.now c.args.order.now middle c.from.result c.index-routes-from.result c.requires inside c.from.ensures c.index-routes-from.is in (
      inside,
      place_found are4 c.args.prefix c.args.routes.now c.args.order.now middle c.requires
          (record { inside = inside; is = here ∙ sym c.rank-here.ensures ∙ c.if-here-wanted.true ∙ c.rank-wanted.ensures }),
    )

pub returns : goal.returns
returns c =
    let wanted = c.rank-wanted.ensures in
    let low = c.loop-from.invariant.lower in
    let high = c.loop-from.invariant.higher in
    let gap : IsGap (ranks ip4 c.args.routes.now) c.args.order.now (rank ip4 c.args.prefix) c.loop-from.from = record {
      inside = omega (arith, c.loop-from.invariant.range, c.loop-from.invariant.inside);
      lower = λ k h. subst (λ r. rank_at (ranks ip4 c.args.routes.now) c.args.order.now k < r) wanted (low k h);
      higher = λ k h inside. subst (λ r. r < rank_at (ranks ip4 c.args.routes.now) c.args.order.now k) wanted (high k (omega (arith, c.loop-from-test.false, h)) inside);
    } in
    (gap_none are4 c.args.prefix c.args.routes.now c.args.order.now c.loop-from.from c.requires gap, gap)
