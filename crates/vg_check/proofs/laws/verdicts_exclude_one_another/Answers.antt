use Rattle.vg_check.proofs.OneVerdictLemmas.{one_verdict}
use Rattle.vg_check.proofs.laws.verdicts_exclude_one_another.Goals as goal

pub returns : goal.returns
returns c = one_verdict
