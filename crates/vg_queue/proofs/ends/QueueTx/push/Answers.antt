use Rattle.vg_queue.proofs.LineLemmas.{puts, last}
use Rattle.vg_queue.proofs.ends.QueueTx.push.Goals as goal

pub push_as-requires-clause-rule : goal.push_as-requires-clause-rule
push_as-requires-clause-rule g c = (puts _ _ _ _ c.args.self.now.puts, last _ _ c.args.self.now.puts)
