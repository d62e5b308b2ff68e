use Rattle.vg_queue.proofs.LineLemmas.{takes, rest}
use Rattle.vg_queue.proofs.ends.QueueRx.pop.Goals as goal

pub pop_as-requires-clause-rule : goal.pop_as-requires-clause-rule
pop_as-requires-clause-rule g c = (takes _ _ c.args.self.now.takes, rest _ _ c.args.self.now.takes)
