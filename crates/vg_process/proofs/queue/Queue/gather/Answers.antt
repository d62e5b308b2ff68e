use Rattle.std.proofs.Common.{length, ap, arith}
use Rattle.vg_process.specs.Waiting.{time_at}
use Rattle.vg_process.proofs.QueuedLemmas.{room_for_armed, moved_over}
use Rattle.vg_process.proofs.queue.Queue.gather.Goals as goal

pub list-requires : goal.list-requires
list-requires c =
    let times = c.args.times.now in
    let polled = c.in-Some.ensures in
    room_for_armed (length times) (time_at times) c.loop-place.self c.in-Some.place c.unwrap-time.result c.loop-place.invariant.queue c.unwrap-time.ensures c.poll.new.self polled.due

pub loop-place-preserved : goal.loop-place-preserved
loop-place-preserved c =
    let times = c.args.times.now in
    let polled = c.in-Some.ensures in
    let listed = c.list.ensures in
    let wheel = listed.wheel in
    let elapsed = ap (λ w. w.elapsed) wheel in
    record {
      queue =
          moved_over (length times) (time_at times) c.loop-place.self c.in-Some.place c.unwrap-time.result c.loop-place.invariant.queue
          c.unwrap-time.ensures
          c.list.new.self
          (rw wheel polled.due)
          (rw wheel polled.disarmed)
          (rw wheel polled.forward)
          (rw wheel polled.limit)
          listed.items
          (listed.ordered c.loop-place.invariant.queue.ordered)
          listed.room;
      from = omega (arith, elapsed, polled.forward, c.loop-place.invariant.from);
      to = omega (arith, elapsed, polled.not_early, c.loop-place.invariant.from, c.loop-place.invariant.to);
    }
