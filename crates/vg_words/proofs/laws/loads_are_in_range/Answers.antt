use Rattle.vg_words.proofs.RangeLemmas.{loads-in_range}
use Rattle.vg_words.proofs.laws.loads_are_in_range.Goals as goal

pub returns : goal.returns
returns c = loads-in_range
