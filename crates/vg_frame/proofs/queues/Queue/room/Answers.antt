use Rattle.std.proofs.Common.{length, ap, arith}
use Rattle.vg_frame.specs.Queue.{indexes_of}
use Rattle.vg_frame.proofs.QueueLemmas.{waiting_len}
use Rattle.vg_frame.proofs.queues.Queue.room.Goals as goal

pub returns-clause-room : goal.returns-clause-room
returns-clause-room c =
    let q = c.self.inside in
    let long = waiting_len indexes_of q.full.items q.newest.value c.self.invariant.full in
    rw (← c.self.view_is) (omega (arith, long, q.full.ok, c.self.invariant.few, ap length c.deref.ensures))
