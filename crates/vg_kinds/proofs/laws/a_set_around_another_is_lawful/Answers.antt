use Rattle.vg_kinds.proofs.AroundLemmas.{around_laws}
use Rattle.vg_kinds.proofs.laws.a_set_around_another_is_lawful.Goals as goal

pub returns : goal.returns
returns c = around_laws
