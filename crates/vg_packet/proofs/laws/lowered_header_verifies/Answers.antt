use Rattle.vg_packet.proofs.UpdateLemmas.{lowered_verifies}
use Rattle.vg_packet.proofs.laws.lowered_header_verifies.Goals as goal

pub returns : goal.returns
returns c = lowered_verifies
