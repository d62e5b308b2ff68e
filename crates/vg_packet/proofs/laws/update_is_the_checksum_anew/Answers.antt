use Rattle.vg_packet.proofs.UpdateLemmas.{updates_as_anew}
use Rattle.vg_packet.proofs.laws.update_is_the_checksum_anew.Goals as goal

pub returns : goal.returns
returns c = updates_as_anew
