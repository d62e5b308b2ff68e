use Rattle.vg_journeys.proofs.TurnLemmas.{turn_adds_under, turn_adds_counted}
use Rattle.vg_journeys.proofs.laws.turns_run_under_their_generation.Goals as goal

pub returns-clause-under : goal.returns-clause-under
returns-clause-under c = turn_adds_under

pub returns-clause-counted : goal.returns-clause-counted
returns-clause-counted c = turn_adds_counted
