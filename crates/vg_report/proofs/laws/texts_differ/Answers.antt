use Rattle.vg_report.proofs.PrintTextLemmas.{differ}
use Rattle.vg_report.proofs.laws.texts_differ.Goals as goal

pub returns : goal.returns
returns c = differ
