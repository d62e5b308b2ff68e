-- For `shown_tags_are_the_packets`: the law.
use Rattle.vg_story.proofs.LawLemmas.{show_tags}
use Rattle.vg_story.proofs.laws.shown_tags_are_the_packets.Goals as goal

pub returns : goal.returns
returns c = show_tags
