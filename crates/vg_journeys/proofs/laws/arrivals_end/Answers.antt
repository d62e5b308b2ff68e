use Rattle.vg_journeys.proofs.ArrivalLemmas.{arrival_ends}
use Rattle.vg_journeys.proofs.laws.arrivals_end.Goals as goal

pub returns : goal.returns
returns c = arrival_ends
