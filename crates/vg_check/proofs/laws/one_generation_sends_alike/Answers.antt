use Rattle.vg_check.proofs.AlikeLemmas.{sends_alike}
use Rattle.vg_check.proofs.laws.one_generation_sends_alike.Goals as goal

pub returns : goal.returns
returns c = sends_alike
