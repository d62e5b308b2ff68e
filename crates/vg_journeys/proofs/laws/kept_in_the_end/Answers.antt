use Rattle.vg_journeys.proofs.KeptLemmas.{kept_in_the_end}
use Rattle.vg_journeys.proofs.laws.kept_in_the_end.Goals as goal

pub returns : goal.returns
returns c = kept_in_the_end
