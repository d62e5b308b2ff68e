use Rattle.vg_check.proofs.YesLemmas.{yes_exactly}
use Rattle.vg_check.proofs.laws.yes_is_exact.Goals as goal

pub returns : goal.returns
returns c = yes_exactly
