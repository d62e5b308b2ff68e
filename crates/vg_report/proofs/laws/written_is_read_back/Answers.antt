use Rattle.vg_report.proofs.PrintTextLemmas.{reads_back}
use Rattle.vg_report.proofs.laws.written_is_read_back.Goals as goal

pub returns : goal.returns
returns c = reads_back
