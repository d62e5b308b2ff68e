-- For `shown_hashes_are_the_packets`: the law.
use Rattle.vg_story.proofs.LawLemmas.{show_hashes}
use Rattle.vg_story.proofs.laws.shown_hashes_are_the_packets.Goals as goal

pub returns : goal.returns
returns c = show_hashes
