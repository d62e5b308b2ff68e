use Rattle.std.proofs.Common.{◌≡◌, ◌+◌, length, sym, ap, ◌∙◌, arith}
use Rattle.vg_process.specs.Waiting.{time_at, with_time}
use Rattle.vg_process.proofs.QueuedLemmas.{same_times}
use Rattle.vg_process.proofs.TimedLemmas.{upto, room_for, upto-self, upto-more, upto-all}
use Rattle.vg_process.proofs.timers.Timers.new.Goals as goal

pub put-requires-clause-room : goal.put-requires-clause-room
put-requires-clause-room c =
    let times = c.deref-time-items.result.now in
    let place = c.loop-place.place in
    room_for (length times) (upto times place) c.loop-place.queue place c.loop-place.invariant.queue c.loop-place-test.true (upto-self times place)

pub loop-place-preserved : goal.loop-place-preserved
loop-place-preserved c =
    let times = c.deref-time-items.result.now in
    let place = c.loop-place.place in
    let none = upto-self times place in
    record {
      queue =
          same_times (length times) (with_time (upto times place) place (time_at times place)) (upto times (place + 1)) c.put.new.self
          (λ other. upto-more times place other)
          (c.put.ensures.queue (length times) (upto times place) c.loop-place.invariant.queue c.loop-place-test.true none);
      ahead = c.put.ensures.ahead c.loop-place.invariant.ahead;
    }

pub look_ahead-requires-clause-queue : goal.look_ahead-requires-clause-queue
look_ahead-requires-clause-queue c =
    let times = c.deref-time-items.result.now in
    let all : c.loop-place.place ≡ length times = omega arith in
    let same : c.as_slice.result.now ≡ times = c.as_slice.ensures.value ∙ sym c.deref-time-items.ensures.value in
    rw same
    (same_times (length times) (upto times c.loop-place.place) (time_at times) c.loop-place.queue
    (λ other. upto-all times other ∙ sym (ap (λ n. upto times n other) all))
    c.loop-place.invariant.queue)
