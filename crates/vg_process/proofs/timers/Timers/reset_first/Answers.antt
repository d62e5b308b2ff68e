use Rattle.std.proofs.Common.{◌≡◌, ◌<◌, length, None, Some, set, sym, ap, ◌∙◌, arith, length-set, set-set, get_or-set_same}
use Rattle.vg_process.specs.Waiting.{time_at}
use Rattle.vg_process.proofs.TimedLemmas.{room_for, set_times, waits_within, one_first, no_first}
use Rattle.vg_process.proofs.timers.Timers.reset_first.Goals as goal

pub invariant_of-self : goal.invariant_of-self
invariant_of-self c =
    let times = c.self.inside.times.items in
    let kept = c.self.invariant in
    let none = c.in_default.ensures.queue (length times) (time_at times) kept.queue kept.ahead kept.ready in
    record { queue = none.1; ahead = c.in_default.ensures.ahead kept.ahead; ready = λ _ key when is. let clash : None ≡ Some when = sym (none.0 key) ∙ none.1.armed key when is in let no : ⊥ = cc in no }

pub returns-in_default : goal.returns-in_default
returns-in_default c = λ first is_first.
    let times = c.self.inside.times.items in
    let kept = c.self.invariant in
    let none = c.in_default.ensures.queue (length times) (time_at times) kept.queue kept.ahead kept.ready in
    absurd (no_first (time_at times) first none.0 (rw c.self.view_is is_first))

pub index_mut-requires : goal.index_mut-requires
index_mut-requires c =
    let times = c.self.inside.times.items in
    let kept = c.self.invariant in
    let taken = c.in-Some.ensures.queue (length times) (time_at times) kept.queue kept.ahead kept.ready in
    let within = waits_within times c.in-Some.first.place c.in-Some.first.time taken.0.waits in
    omega (arith, within, c.self.inside.times.ok)

pub gather-requires : goal.gather-requires
gather-requires c =
    let times = c.self.inside.times.items in
    let kept = c.self.invariant in
    let place = c.in-Some.first.place in
    let taken = c.in-Some.ensures.queue (length times) (time_at times) kept.queue kept.ahead kept.ready in
    let within = waits_within times place c.in-Some.first.time taken.0.waits in
    rw c.as_slice.ensures.value (set_times times place None c.take_first.new.self within taken.1)

pub index_mut-requires-2 : goal.index_mut-requires-2
index_mut-requires-2 c =
    let times = c.self.inside.times.items in
    let kept = c.self.invariant in
    let taken = c.in-Some.ensures.queue (length times) (time_at times) kept.queue kept.ahead kept.ready in
    let within = waits_within times c.in-Some.first.place c.in-Some.first.time taken.0.waits in
    omega (arith, within, c.self.inside.times.ok)

pub put-requires-clause-room : goal.put-requires-clause-room
put-requires-clause-room c =
    let times = c.self.inside.times.items in
    let kept = c.self.invariant in
    let place = c.in-Some.first.place in
    let taken = c.in-Some.ensures.queue (length times) (time_at times) kept.queue kept.ahead kept.ready in
    let within = waits_within times place c.in-Some.first.time taken.0.waits in
    let between = set times place None in
    let below : place < length between = omega (arith, within, length-set times place None) in
    let gathered = rw c.as_slice.ensures.value at c.gather.ensures.queue in
    room_for (length between) (time_at between) c.gather.new.self place gathered below (get_or-set_same times place None None within)

pub put-requires-clause-key : goal.put-requires-clause-key
put-requires-clause-key c =
    let times = c.self.inside.times.items in
    let kept = c.self.invariant in
    let place = c.in-Some.first.place in
    let taken = c.in-Some.ensures.queue (length times) (time_at times) kept.queue kept.ahead kept.ready in
    let within = waits_within times place c.in-Some.first.time taken.0.waits in
    let gathered = rw c.as_slice.ensures.value at c.gather.ensures.queue in
    omega (arith, within, length-set times place None, gathered.keys)

pub look_ahead-requires-clause-queue : goal.look_ahead-requires-clause-queue
look_ahead-requires-clause-queue c =
    let times = c.self.inside.times.items in
    let kept = c.self.invariant in
    let place = c.in-Some.first.place in
    let taken = c.in-Some.ensures.queue (length times) (time_at times) kept.queue kept.ahead kept.ready in
    let within = waits_within times place c.in-Some.first.time taken.0.waits in
    let between = set times place None in
    let below : place < length between = omega (arith, within, length-set times place None) in
    let gathered = rw c.as_slice.ensures.value at c.gather.ensures.queue in
    let put = c.put.ensures.queue (length between) (time_at between) gathered below (get_or-set_same times place None None within) in
    rw c.as_slice-2.ensures.value (set_times between place c.args.time c.put.new.self below put)

pub returns : goal.returns
returns c = λ first is_first.
    let times = c.self.inside.times.items in
    let kept = c.self.invariant in
    let place = c.in-Some.first.place in
    let taken = c.in-Some.ensures.queue (length times) (time_at times) kept.queue kept.ahead kept.ready in
    let same = one_first (time_at times) c.in-Some.first first taken.0 (rw c.self.view_is is_first) in
    set-set times place None c.args.time ∙ ap (λ p. set times p c.args.time) same ∙ ap (λ ts. set ts first.place c.args.time) c.self.view_is
