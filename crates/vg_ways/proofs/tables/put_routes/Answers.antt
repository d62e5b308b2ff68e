-- For `put_routes`: its loop.
use Rattle.std.proofs.Common.{◌++◌, ap, ◌∙◌}
use Rattle.vg_story.specs.declared.pieces.Value.TheVariants as values
use Rattle.vg_ways.specs.Counts.{route_text}
use Rattle.vg_ways.specs.Tallies.{tally_in}
use Rattle.vg_ways.proofs.TableLemmas.{each_more}
use Rattle.vg_ways.proofs.tables.put_routes.Goals as goal

pub loop-route-preserved : goal.loop-route-preserved
loop-route-preserved c =
    let names = c.args.names.now in
    let matched = (tally_in c.args.tally.now).matched in
    let route = c.route-item.result in
    each_more (λ r. route_text names (values.Prefix r.0) r.1 (matched r.0)) c.args.out.now.items
    (record { within = c.loop-route-test.true; read = c.route-item.is }) c.loop-route.invariant
    (c.in_ok-put_route.ensures ∙ ap (λ n. c.loop-route.out.items ++ route_text names (values.Prefix route.0) route.1 n) c.matched-count.ensures)
