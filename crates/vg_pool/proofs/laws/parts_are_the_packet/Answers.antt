use Rattle.vg_pool.proofs.PartLemmas.{parts_joined}
use Rattle.vg_pool.proofs.laws.parts_are_the_packet.Goals as goal

pub returns : goal.returns
returns c = parts_joined
