use Rattle.vg_words.proofs.RangeLemmas.{runs-in_range}
use Rattle.vg_words.proofs.laws.runs_are_in_range.Goals as goal

pub returns : goal.returns
returns c = runs-in_range
