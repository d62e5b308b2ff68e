use Rattle.vg_check.specs.Verdicts.{case_of}
use Rattle.vg_check.proofs.CheckLemmas.{yes_where}
use Rattle.vg_check.proofs.checks.check.Goals as goal

pub returns-clause-yes : goal.returns-clause-yes
returns-clause-yes g c = yes_where (case_of g.K.KindSet.meaning c.args.plan.now c.args.capture.now c.args.queue c.args.tx.now c.args.report.now) c.verdict.result c.verdict.ensures
