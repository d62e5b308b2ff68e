-- `run_rows`, that each row is run, in their order: the loop over the rows.
use Rattle.std.proofs.Common.{take}
use Rattle.vg_rows.specs.Run.{AreJudged}
use Rattle.vg_rows.proofs.running.run_rows.Given as goal

abbrev pub invariant-loop-row : goal.invariant-loop-row
invariant-loop-row g l = AreJudged (take l.row-index l.rows) l.judged.items
