-- For `unshown_fields_stay`: the law.
use Rattle.vg_story.proofs.LawLemmas.{unshown_stay}
use Rattle.vg_story.proofs.laws.unshown_fields_stay.Goals as goal

pub returns : goal.returns
returns c = unshown_stay
