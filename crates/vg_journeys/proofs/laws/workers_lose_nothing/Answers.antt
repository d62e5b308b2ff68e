use Rattle.vg_journeys.proofs.BalanceLemmas.{balanced}
use Rattle.vg_journeys.proofs.laws.workers_lose_nothing.Goals as goal

pub returns : goal.returns
returns c = balanced
