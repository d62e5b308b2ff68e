use Rattle.vg_dot1q.specs.lawful.TagLemmas.{tag_is_renumbered}
use Rattle.vg_dot1q.proofs.laws.a_tag_is_renumbered.Goals as goal

pub returns : goal.returns
returns c = tag_is_renumbered
