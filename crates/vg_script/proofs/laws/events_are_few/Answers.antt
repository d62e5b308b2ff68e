use Rattle.vg_script.proofs.EventLemmas.{events_are_few, events_are_soon}
use Rattle.vg_script.proofs.laws.events_are_few.Goals as goal

pub returns-clause-count : goal.returns-clause-count
returns-clause-count c = events_are_few

pub returns-clause-time : goal.returns-clause-time
returns-clause-time c = events_are_soon
