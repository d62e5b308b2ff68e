-- For the loop of `put_drops_of`: one entry more.
use Rattle.vg_draw.specs.Drawing.{drop_line}
use Rattle.vg_draw.proofs.LineLemmas.{one_more_text}
use Rattle.vg_draw.proofs.lines.put_drops_of.Goals as goal

pub loop-entry-preserved : goal.loop-entry-preserved
loop-entry-preserved c =
    one_more_text (drop_line c.args.packets c.args.number c.args.name.now) c.args.errors.now c.loop-entry.entry-index c.entry-item.result c.args.out.now.items _ _
    c.loop-entry-test.true c.entry-item.is c.loop-entry.invariant c.in_ok-put_drop.ensures
