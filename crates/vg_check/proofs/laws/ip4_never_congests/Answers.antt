use Rattle.vg_check.proofs.CourseLemmas.{own_visit}
use Rattle.vg_check.proofs.laws.ip4_never_congests.Goals as goal

pub returns : goal.returns
returns c = own_visit
