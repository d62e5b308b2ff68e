use Rattle.vg_ip6.specs.lawful.RewriteLemmas.{all_else}
use Rattle.vg_ip6.proofs.laws.all_else_of_a_frame_stays.Goals as goal

pub returns : goal.returns
returns c = all_else
