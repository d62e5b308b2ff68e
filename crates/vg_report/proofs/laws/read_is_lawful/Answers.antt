use Rattle.vg_report.proofs.ReadTextLemmas.{reads_lawful}
use Rattle.vg_report.proofs.laws.read_is_lawful.Goals as goal

pub returns : goal.returns
returns c = reads_lawful
