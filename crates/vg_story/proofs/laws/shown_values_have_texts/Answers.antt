-- For `shown_values_have_texts`: the law.
use Rattle.vg_story.proofs.ThereLemmas.{shown_have_texts}
use Rattle.vg_story.proofs.laws.shown_values_have_texts.Goals as goal

pub returns : goal.returns
returns c = shown_have_texts
