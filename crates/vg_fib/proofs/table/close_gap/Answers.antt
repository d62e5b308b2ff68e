-- For `close_gap`: the places that were looked at have moved down.
use Rattle.std.proofs.Common.{ℕ, ◌<◌, length, get_or, ◌∙◌, ap, arith}
use Rattle.std.proofs.Math.ListN.{set}
use Rattle.std.proofs.lemmas.List.{get_or_default}
use Rattle.std.proofs.lemmas.List.Edits.{map_over_more}
use Rattle.vg_fib.specs.Order.{moved_down}
use Rattle.vg_fib.proofs.table.close_gap.Goals as goal

pub loop-other-preserved : goal.loop-other-preserved
loop-other-preserved c =
    let here : ℕ = get_or c.loop-other.order c.loop-other.other-index 0 in
    let within : c.loop-other.other-index < length c.loop-other.order = omega (arith, c.loop-other.auto.order, c.loop-other-test.true) in
    let more = map_over_more (moved_down c.args.place) c.args.order.now c.loop-other.order c.loop-other.other-index here
    c.loop-other-test.true c.loop-other.invariant (get_or_default c.loop-other.order c.loop-other.other-index 0 here within) in
    ap (set c.loop-other.order c.loop-other.other-index) c.place_without.ensures ∙ more
