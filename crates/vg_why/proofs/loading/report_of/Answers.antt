-- For `report_of`: its clause `lawful`.
use Rattle.vg_report.proofs.ReadTextLemmas.{reads_lawful}
use Rattle.vg_why.proofs.loading.report_of.Goals as goal

pub returns-in-Ok-clause-lawful : goal.returns-in-Ok-clause-lawful
returns-in-Ok-clause-lawful c = (reads_lawful c.args.text.now c.in-Ok.report c.in-Ok.ensures).0
