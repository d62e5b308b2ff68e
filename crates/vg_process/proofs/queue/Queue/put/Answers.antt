use Rattle.std.proofs.Common.{arith}
use Rattle.vg_process.proofs.QueuedLemmas.{put_listed}
use Rattle.vg_process.proofs.queue.Queue.put.Goals as goal

pub returns-then-time-elapsed-clause-queue : goal.returns-then-time-elapsed-clause-queue
returns-then-time-elapsed-clause-queue c = λ limit time_of queue below none.
    rw c.in-Some.is
    (put_listed limit time_of c.args.self.now c.list.new.self (record { 0 = record { time = c.in-Some.time; place = c.args.place } }) queue none below (omega (arith, c.elapsed.ensures)) c.list.ensures.wheel c.list.ensures.items (c.list.ensures.ordered queue.ordered) c.list.ensures.room)
