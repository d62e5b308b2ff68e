use Rattle.std.proofs.Common.{refl}
use Rattle.vg_process.proofs.QueuedLemmas.{top_is_first, none_waits, same_list, taken}
use Rattle.vg_process.proofs.queue.Queue.take_first.Goals as goal

pub returns-in_err-turn-clause-queue : goal.returns-in_err-turn-clause-queue
returns-in_err-turn-clause-queue c = λ limit time queue ahead ready.
    rw c.from_residual.ensures (
      none_waits limit time c.args.self.now queue ready c.in_err-turn.ensures.none,
      same_list limit time c.args.self.now (record { wheel = c.args.self.now.wheel; due = c.pop.new.self }) queue c.in_err-turn.ensures.unchanged.0 c.in_err-turn.ensures.capacity refl,
    )

pub returns-clause-queue : goal.returns-clause-queue
returns-clause-queue c = λ limit time queue ahead ready.
    let top = c.in_ok-turn.ensures in
    let turn = c.in_ok-turn.turn in
    let order = top.heap_order queue.ordered in (
      top_is_first limit time c.args.self.now queue ahead turn top.top (top.variant.0 refl) order.1,
      taken limit time c.args.self.now (record { wheel = c.args.self.now.wheel; due = c.pop.new.self }) turn.0.place queue turn refl top.permutation order.0 top.capacity refl,
    )
