use Rattle.std.proofs.Common.{rules}
use Rattle.vg_queue.proofs.LineLemmas.{comes, rest}
use Rattle.vg_queue.proofs.closing.close.Goals as goal

pub absorb-requires-clause-rule : goal.absorb-requires-clause-rule
absorb-requires-clause-rule g c = comes _ _ _ _ c.args.rx.takes c.args.tx.puts

pub learn_as-requires-clause-rule : goal.learn_as-requires-clause-rule
learn_as-requires-clause-rule g c = rest _ _ (search rules)
