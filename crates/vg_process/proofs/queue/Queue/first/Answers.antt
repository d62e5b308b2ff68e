use Rattle.std.proofs.Common.{refl, arith}
use Rattle.vg_process.proofs.QueuedLemmas.{top_is_first, none_waits}
use Rattle.vg_process.proofs.queue.Queue.first.Goals as goal

pub returns-in_err-turn : goal.returns-in_err-turn
returns-in_err-turn c = λ limit time queue ahead ready. rw c.from_residual.ensures (none_waits limit time c.args.self.now queue ready (grind (arith, c.in_err-turn.ensures.variant)))

pub returns : goal.returns
returns c = λ limit time queue ahead ready.
    let top = c.in_ok-turn.ensures in
    top_is_first limit time c.args.self.now queue ahead c.in_ok-turn.turn.now top.lookup (top.variant.0 refl) (top.greatest queue.ordered)
