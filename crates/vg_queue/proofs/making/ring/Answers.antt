use Rattle.std.proofs.Common.{rules}
use Rattle.vg_queue.proofs.LineLemmas.{opens, parts}
use Rattle.vg_queue.proofs.making.ring.Goals as goal

pub ruled-requires-clause-rule : goal.ruled-requires-clause-rule
ruled-requires-clause-rule g c = opens

pub another-receiver-requires-clause-rule : goal.another-receiver-requires-clause-rule
another-receiver-requires-clause-rule g c = parts _ _ (search rules) (search rules)
