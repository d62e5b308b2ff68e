-- For `journeys_are_shown`: its clause.
use Rattle.vg_ways.proofs.JourneyLemmas as lemmas
use Rattle.vg_ways.proofs.laws.journeys_are_shown.Goals as goal

pub returns : goal.returns
returns c = lemmas.journeys_are_shown
