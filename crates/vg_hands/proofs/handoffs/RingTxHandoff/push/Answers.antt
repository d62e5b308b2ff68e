use Rattle.vg_hands.proofs.StepLemmas.{push_steps}
use Rattle.vg_hands.proofs.handoffs.RingTxHandoff.push.Goals as goal

pub returns-clause-steps : goal.returns-clause-steps
returns-clause-steps g c = push_steps c.args.self.now c.push.new.self c.push.result c.push.ensures.full_read c.push.ensures.ok_written
