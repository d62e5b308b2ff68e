use Rattle.vg_check.proofs.LawLemmas.{only, one_output}
use Rattle.vg_check.proofs.laws.one_worker_leaves_no_choice.Goals as goal

pub returns-clause-choices : goal.returns-clause-choices
returns-clause-choices c = only

pub returns-clause-output : goal.returns-clause-output
returns-clause-output c = one_output
