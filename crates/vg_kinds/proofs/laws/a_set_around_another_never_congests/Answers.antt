use Rattle.vg_kinds.proofs.AroundLemmas.{around_uncongested}
use Rattle.vg_kinds.proofs.laws.a_set_around_another_never_congests.Goals as goal

pub returns : goal.returns
returns c = around_uncongested
