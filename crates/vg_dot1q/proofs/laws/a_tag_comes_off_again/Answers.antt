use Rattle.vg_dot1q.specs.lawful.TagLemmas.{tag_comes_off}
use Rattle.vg_dot1q.proofs.laws.a_tag_comes_off_again.Goals as goal

pub returns : goal.returns
returns c = tag_comes_off
