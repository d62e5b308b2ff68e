use Rattle.vg_turns.proofs.StepLemmas.{steps_are_of}
use Rattle.vg_turns.proofs.reading.Turns.read.Goals as goal

pub returns-in-None-clause-steps : goal.returns-in-None-clause-steps
returns-in-None-clause-steps c = steps_are_of c.args.workers c.args.file.now
