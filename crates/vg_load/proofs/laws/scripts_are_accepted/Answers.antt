use Rattle.vg_load.proofs.ScriptExamples.{plain_is_accepted, handoff_is_accepted}
use Rattle.vg_load.proofs.laws.scripts_are_accepted.Goals as goal

pub returns-clause-plain : goal.returns-clause-plain
returns-clause-plain c = plain_is_accepted

pub returns-clause-handoff : goal.returns-clause-handoff
returns-clause-handoff c = handoff_is_accepted
