use Rattle.vg_plan.proofs.GenerationLemmas.{first_graph, all_made}
use Rattle.vg_plan.proofs.laws.events_are_made.Goals as goal

pub returns-clause-first : goal.returns-clause-first
returns-clause-first c = first_graph

pub returns-clause-next : goal.returns-clause-next
returns-clause-next c = all_made
