use Rattle.std.proofs.Common.{◌∙◌, sym, ap}
use Rattle.std.specs.Prelude.{Some}
use Rattle.vg_fib.proofs.LongestLemmas.{longest_more, longest_no_more}
use Rattle.vg_fib.proofs.table6.Fib6.find.Goals as goal
use Rattle.vg_fib.proofs.table6.Fib6.find.Goals.{then-covers, else-covers}

pub loop-route-preserved : goal.loop-route-preserved
loop-route-preserved c =
    elim c.if-covers.branch [
      | then-covers w ↦ w.longest-is ∙ (ap (λ route. Some route) w.longer.ensures
          ∙ longest_more _ _ c.deref-route-items.result.now c.loop-route.route-index c.route-item.result c.loop-route.longest
          c.loop-route-test.true c.route-item.is c.loop-route.invariant (sym c.covers.ensures ∙ w.if-covers.true))
      | else-covers w ↦ w.longest-is
          ∙ longest_no_more _ _ c.deref-route-items.result.now c.loop-route.route-index c.route-item.result c.loop-route.longest
          c.loop-route-test.true c.route-item.is c.loop-route.invariant (sym c.covers.ensures ∙ w.if-covers.false)
    ]
