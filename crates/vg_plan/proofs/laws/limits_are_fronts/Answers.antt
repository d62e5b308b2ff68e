use Rattle.vg_plan.proofs.WindowLemmas as windows
use Rattle.vg_plan.proofs.laws.limits_are_fronts.Goals as goal

pub returns : goal.returns
returns c = windows.limits_are_fronts
