-- For `shown_places_are_the_neighbors`: the law.
use Rattle.vg_story.proofs.LawLemmas.{show_places}
use Rattle.vg_story.proofs.laws.shown_places_are_the_neighbors.Goals as goal

pub returns : goal.returns
returns c = show_places
