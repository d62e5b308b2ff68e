-- `run_rows`, that each row is run: one row more.
use Rattle.vg_rows.proofs.JudgedLemmas.{judged_more}
use Rattle.vg_rows.proofs.running.run_rows.Goals as goal

pub loop-row-preserved : goal.loop-row-preserved
loop-row-preserved g c =
    judged_more c.args.rows.now c.loop-row.row-index c.row-item.result c.loop-row.judged.items c.push.new.self.items c.in_ok-run_row.field-0
    c.loop-row-test.true c.row-item.is c.loop-row.invariant c.in_ok-run_row.ensures c.in_ok-push.ensures.items
