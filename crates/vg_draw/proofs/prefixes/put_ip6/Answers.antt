-- For the loop of `put_ip6`: one route more.
use Rattle.vg_model.specs.Route.{ip6}
use Rattle.vg_draw.specs.Prefixes.{prefix6_text, line_over}
use Rattle.vg_draw.proofs.PrefixLemmas.{shown_one_more}
use Rattle.vg_draw.proofs.prefixes.put_ip6.Goals as goal

pub loop-route-preserved : goal.loop-route-preserved
loop-route-preserved c =
    shown_one_more (line_over ip6 prefix6_text c.args.number c.args.before.now) c.args.routes.now c.loop-route.route-index c.route-item.result c.args.room c.args.out.now.items _ _ _ _
    c.loop-route-test.true c.route-item.is c.loop-route.invariant c.in_ok-left.ensures.text c.in_ok-left.ensures.left
