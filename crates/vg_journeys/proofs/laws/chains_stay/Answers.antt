use Rattle.vg_journeys.proofs.StayLemmas.{chains_stay}
use Rattle.vg_journeys.proofs.laws.chains_stay.Goals as goal

pub returns : goal.returns
returns c = chains_stay
