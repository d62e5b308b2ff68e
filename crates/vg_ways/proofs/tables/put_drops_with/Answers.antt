-- For `put_drops_with`: its loop.
use Rattle.std.proofs.lemmas.List.{get_or_default}
use Rattle.vg_ways.specs.Counts.{drop_line}
use Rattle.vg_ways.specs.Tallies.{tally_in}
use Rattle.vg_ways.proofs.TableLemmas.{each_more}
use Rattle.vg_ways.proofs.tables.put_drops_with.Goals as goal

pub loop-error-preserved : goal.loop-error-preserved
loop-error-preserved c =
    let node = c.args.node in
    each_more (λ error. drop_line c.args.names.now node error ((tally_in c.args.tally.now).dropped node error)) c.args.out.now.items
    (record { within = c.loop-error-test.true; read = get_or_default c.args.errors.now c.loop-error.error-index _ _ c.loop-error-test.true }) c.loop-error.invariant c.in_ok-put_error.ensures
