use Rattle.vg_top.proofs.AcceptedLemmas.{inputs_behind, accepted_behind, status_behind}
use Rattle.vg_top.proofs.laws.what_is_done_is_accepted.Goals as goal

pub returns-clause-inputs : goal.returns-clause-inputs
returns-clause-inputs c = inputs_behind

pub returns-clause-accepted : goal.returns-clause-accepted
returns-clause-accepted c = accepted_behind

pub returns-clause-status : goal.returns-clause-status
returns-clause-status c = status_behind
