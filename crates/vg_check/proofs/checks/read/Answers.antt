use Rattle.vg_report.proofs.ReadTextLemmas.{reads_lawful}
use Rattle.vg_check.proofs.checks.read.Goals as goal

pub returns-in-Ok : goal.returns-in-Ok
returns-in-Ok c =
    let read = c.in-Ok.ensures in
    (read, (reads_lawful c.args.text.now c.in-Ok.report read).0)
