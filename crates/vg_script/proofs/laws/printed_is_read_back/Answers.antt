use Rattle.vg_script.proofs.RoundTripLemmas.{reads_back}
use Rattle.vg_script.proofs.laws.printed_is_read_back.Goals as goal

pub returns : goal.returns
returns c = reads_back
