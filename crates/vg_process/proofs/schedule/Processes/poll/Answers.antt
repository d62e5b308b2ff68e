use Rattle.std.proofs.Common.{◌≡◌, ◌<◌, ◌≤◌, [], ◌∷◌, drop, set, refl, sym, ap, ◌∙◌, arith}
use Rattle.std.proofs.lemmas.List.{map-set, get_or_read}
use Rattle.std.proofs.lemmas.List.Elements.{All-weaker, All-same, All-nil}
use Rattle.vg_script.specs.Events.{Event}
use Rattle.vg_process.specs.Left.{first_time, event_of}
use Rattle.vg_process.specs.Rest.{rest_at, left}
use Rattle.vg_process.proofs.FirstLemmas.{has_run, time_at-map, left-none, none_earlier, first_left, time_is, place_within, IsOrderly-set}
use Rattle.vg_process.proofs.schedule.Processes.poll.Goals as goal

pub returns-in_default-clause-given : goal.returns-in_default-clause-given
returns-in_default-clause-given c =
    let Later : Event → Type 0 = λ event. c.args.now < event.time in
    let none = rw c.self.invariant.times at c.in_default.ensures in
    let empty : c.args.self.now ≡ [] = sym c.self.view_is ∙ left-none c.self.inside.states.items none in
    (All-same Later c.args.self.now [] empty (All-nil Later), refl)

pub returns-then-first-now-clause-given : goal.returns-then-first-now-clause-given
returns-then-first-now-clause-given c =
    let states = c.self.inside.states.items in
    let turn = c.in-Some.first in
    let Later : Event → Type 0 = λ event. c.args.now < event.time in
    let first = rw c.self.invariant.times at c.in-Some.ensures in
    let past : c.args.now < turn.time = omega arith in
    let later =
    All-weaker (λ event. turn.time ≤ event.time) Later (λ event least. omega (arith, past, least)) (left states)
    (none_earlier states c.self.invariant.orderly turn first) in
    (All-same Later c.args.self.now (left states) (sym c.self.view_is) later, refl)

pub invariant_of-self-2 : goal.invariant_of-self-2
invariant_of-self-2 c =
    let states = c.self.inside.states.items in
    let turn = c.in-Some.first in
    let place = turn.place in
    let kept = c.self.invariant in
    let first = rw kept.times at c.in-Some.ensures in
    let state = c.index_mut-state.result.now in
    let run = has_run (rest_at states place) turn.time (sym (time_at-map states place) ∙ first.waits) in
    let below = place_within states kept.orderly turn first run.0 run.1 run.2 in
    let at : rest_at states place ≡ state = sym (get_or_read states place state below c.index_mut-state.ensures.value []) in
    let rest = c.advance.new.self in
    record {
      times =
          c.reset_first.ensures turn c.in-Some.ensures
          ∙ ap (λ time. set c.self.inside.timers place time) c.next_time.ensures
          ∙ ap (λ times. set times place (first_time rest)) kept.times
          ∙ sym (map-set first_time states place rest);
      orderly = IsOrderly-set states place 1 rest below (c.advance.ensures ∙ ap (drop 1) (sym at)) kept.orderly;
    }

pub returns-clause-given : goal.returns-clause-given
returns-clause-given c =
    let states = c.self.inside.states.items in
    let turn = c.in-Some.first in
    let place = turn.place in
    let orderly = c.self.invariant.orderly in
    let first = rw c.self.invariant.times at c.in-Some.ensures in
    let state = c.index_mut-state.result.now in
    let gives = c.in_ok-due.ensures in
    let event = event_of c.in_ok-due.due gives.occurrence in
    let run = has_run (rest_at states place) turn.time (sym (time_at-map states place) ∙ first.waits) in
    let below = place_within states orderly turn first run.0 run.1 run.2 in
    let at : rest_at states place ≡ state = sym (get_or_read states place state below c.index_mut-state.ensures.value []) in
    let is : rest_at states place ≡ event ∷ drop 1 state = at ∙ gives.first in
    let time = time_is states orderly turn first event (drop 1 state) is in
    record {
      occurrence = gives.occurrence;
      first =
          sym c.self.view_is
          ∙ first_left states orderly turn first event (drop 1 state) is
          ∙ ap (λ rest. event ∷ left (set states place rest)) (sym c.advance.ensures);
      reached = omega (arith, time);
    }
