use Rattle.vg_plan.proofs.KindLemmas.{drops_are_one}
use Rattle.vg_plan.proofs.laws.the_node_that_drops_is_one.Goals as goal

pub returns : goal.returns
returns c = drops_are_one
