-- For `RouteLines::put_all`: its loop, its clause.
use Rattle.vg_ways.proofs.LineLemmas.{after_none, after_more, after_all}
use Rattle.vg_ways.proofs.lines.RouteLines.put_all.Goals as goal

pub loop-edit-init : goal.loop-edit-init
loop-edit-init c = after_none c.args.self.now

pub loop-edit-preserved : goal.loop-edit-preserved
loop-edit-preserved c =
    after_more (record { within = c.loop-edit-test.true; read = c.edit-item.is }) c.loop-edit.invariant c.in_ok-put.ensures

pub returns : goal.returns
returns c = after_all c.loop-edit.edit-index c.as_slice-edit-items.ensures c.loop-edit-test.false c.loop-edit.invariant
