-- For `laws::trips_are_journeys` and `laws::kept_in_the_end`: which packets went over a queue.
use Rattle.std.proofs.Common.{◌≡◌, ℕ, ◌+◌, ◌*◌, ◌<◌, ◌⊎◌, inl, inr, Bool, true, false, List, [], ◌∷◌, map, refl, sym, ap, ◌∙◌, arith}
use Rattle.std.specs.Prelude.{Option, Some, None, ◌==◌, ◌&&◌, if◌then◌else◌}
use Rattle.std.specs.List.{sum_by, AllByRecursion}
use Rattle.std.proofs.lemmas.Bool.{eq-eqb, ne_eqb}
use Rattle.std.proofs.lemmas.List.Sums.{sum_by-cons, sum_by-append}
use Rattle.vg_model.specs.Leg.{Outcome, Sent, Dropped, Handed}
use Rattle.vg_model.specs.Lawful.{hands_in}
use Rattle.vg_pool.specs.Contents.{Contents}
use Rattle.vg_journeys.specs.Chains.{count_some}
use Rattle.vg_journeys.specs.Trips.{Run, Arrival, Drawn, Taken, number_of, Trip, contents_after, onward_by, onward, IsTrip}
use Rattle.vg_journeys.specs.Treks.{IsTrek, course_of, goes_over, goes_over_by, hand_of, hand_by}
use Rattle.vg_journeys.specs.Accounts.{HandoffFrame, Account, frames_with, frame_arrivals, arrivals_in, below, gone}
use Rattle.vg_journeys.specs.Moments.{StandsFor, trips_of, IsMoment}
use Rattle.vg_journeys.proofs.RunLemmas.{hands_of_trek}
use Rattle.vg_journeys.proofs.AccountLemmas.{all_mono}
use Rattle.vg_journeys.proofs.JoinLemmas.{same_or_not, sum_made, only_one, gone_none}
use Rattle.vg_journeys.proofs.NoteLemmas.{one_number}

-- a packet that goes over counts by its number
by_number : (count : ℕ → ℕ) (from to worker number : ℕ) (c : Contents) (outcome : Outcome) (refused : Option ℕ) → c.packet.number ≡ number
    → goes_over_by count from to worker (onward_by c outcome refused) ≡ count number * goes_over from to worker (onward_by c outcome refused)
by_number count from to worker number c (Handed node next) None same = pick (worker == from && next == to) ∙ ap (λ n. count n * (if worker == from && next == to then 1 else 0)) same
  where
    pick : (b : Bool) → (if b then count c.packet.number else 0) ≡ count c.packet.number * (if b then 1 else 0)
    pick true = omega arith
    pick false = omega arith
by_number count from to worker number c (Handed node next) (Some accepted) same = omega arith
by_number count from to worker number c (Sent interface) refused same = omega arith
by_number count from to worker number c (Dropped node error) refused same = omega arith

trips_by_number : (run : Run) (count : ℕ → ℕ) (from to number : ℕ) (ts : List Trip) → AllByRecursion (IsTrip run) ts → AllByRecursion (λ t. number_of t.arrival ≡ number) ts
    → sum_by (hand_by count from to) ts ≡ count number * sum_by (hand_of from to) ts
trips_by_number run count from to number [] all same = omega arith
trips_by_number run count from to number (t ∷ ts) all same =
    let rest = trips_by_number run count from to number ts all.1 same.1 in
    let one = by_number count from to t.worker number (contents_after t) t.way.outcome t.refused (all.0.number ∙ same.0) in
    let split : count number * (hand_of from to t + sum_by (hand_of from to) ts) ≡ count number * hand_of from to t + count number * sum_by (hand_of from to) ts = grind arith in
    let cons = ap (λ n. count number * n) (sum_by-cons (hand_of from to) t ts) in
    omega (arith, rest, one, split, cons, sum_by-cons (hand_by count from to) t ts)

pub hands_by_trek : (run : Run) (count : ℕ → ℕ) (from to number : ℕ) (bytes : List ℕ) (trek : List Trip) → IsTrek (Some (Drawn number bytes)) trek → AllByRecursion (IsTrip run) trek
    → sum_by (hand_by count from to) trek ≡ count number * hands_in from to (course_of trek).legs
hands_by_trek run count from to number bytes [] is all = absurd is
hands_by_trek run count from to number bytes (t ∷ ts) is all =
    trips_by_number run count from to number (t ∷ ts) all (one_number run number t ts (ap number_of is.0) is.1 all)
    ∙ ap (λ n. count number * n) (hands_of_trek run from to number bytes (t ∷ ts) is all)

-- what frames count, to this worker and to others
went_by : (count : ℕ → ℕ) (from to : ℕ) → Arrival → ℕ
went_by count from to e = goes_over_by count from to from (Some e)

went_by_is : (count : ℕ → ℕ) (from to : ℕ) (o : Option Arrival) → count_some (went_by count from to) o ≡ goes_over_by count from to from o
unfolding went_by
went_by_is count from to None = refl
went_by_is count from to (Some e) = refl

to_this : (count : ℕ → ℕ) (from to : ℕ) (frames : List HandoffFrame) → sum_by (went_by count from to) (arrivals_in to frames) ≡ sum_by (λ e. count (number_of e)) (arrivals_in to frames)
unfolding went_by
to_this count from to [] = refl
to_this count from to (frame ∷ frames) =
    let rest = to_this count from to frames in
    let here = packets_of frame.packets in
    omega (arith, rest, here, sum_by-append (went_by count from to) (frame_arrivals to frame) (arrivals_in to frames), sum_by-append (λ e. count (number_of e)) (frame_arrivals to frame) (arrivals_in to frames))
  where
    packets_of : (cs : List Contents) → sum_by (went_by count from to) (map (Taken to frame.node) cs) ≡ sum_by (λ e. count (number_of e)) (map (Taken to frame.node) cs)
    packets_of [] = refl
    packets_of (c ∷ cs) =
        let more = packets_of cs in
        let one : went_by count from to (Taken to frame.node c) ≡ count c.packet.number = rw (eq-eqb from from refl, eq-eqb to to refl) refl in
        omega (arith, more, one, sum_by-cons (went_by count from to) (Taken to frame.node c) (map (Taken to frame.node) cs), sum_by-cons (λ e. count (number_of e)) (Taken to frame.node c) (map (Taken to frame.node) cs))

to_other : (count : ℕ → ℕ) (from to other : ℕ) (frames : List HandoffFrame) → (other ≡ to → ⊥) → sum_by (went_by count from to) (arrivals_in other frames) ≡ 0
unfolding went_by
to_other count from to other [] not = refl
to_other count from to other (frame ∷ frames) not =
    let rest = to_other count from to other frames not in
    let here = packets_of frame.packets in
    omega (arith, rest, here, sum_by-append (went_by count from to) (frame_arrivals other frame) (arrivals_in other frames))
  where
    packets_of : (cs : List Contents) → sum_by (went_by count from to) (map (Taken other frame.node) cs) ≡ 0
    packets_of [] = refl
    packets_of (c ∷ cs) =
        let more = packets_of cs in
        let one : went_by count from to (Taken other frame.node c) ≡ 0 = rw (eq-eqb from from refl, ne_eqb other to not) refl in
        omega (arith, more, one, sum_by-cons (went_by count from to) (Taken other frame.node c) (map (Taken other frame.node) cs))

-- what all trips count of those that went over a queue is what its frames count
pub over_queue : (run : Run) (traced : ℕ) (at : ℕ → Account) (rest : ℕ → ℕ → List HandoffFrame) (moment : IsMoment run traced at rest) (from to : ℕ) → from < run.workers → to < run.workers → (count : ℕ → ℕ)
    → sum_by (λ e. count (number_of e)) (arrivals_in to (frames_with to (at from).put)) ≡ sum_by (hand_by count from to) (trips_of run traced at (below run.workers) moment.stand)
over_queue run traced at rest moment from to hf ht count =
    let queue : ℕ → ℕ = λ other. sum_by (went_by count from to) (arrivals_in other (frames_with other (at from).put)) in
    let alone = only_one queue run.workers to ht (λ other not. to_other count from to other (frames_with other (at from).put) not) in
    let this = to_this count from to (frames_with to (at from).put) in
    let all = sum_made run traced at (hand_by count from to) own each (below run.workers) moment.stand in
    let once = only_one own run.workers from hf (λ w not. ap (λ (b : Bool). if b then gone run (went_by count from to) (at w) else 0) (ne_eqb from w (λ e. not (sym e)))) in
    let same : own from ≡ gone run (went_by count from to) (at from) = ap (λ (b : Bool). if b then gone run (went_by count from to) (at from) else 0) (eq-eqb from from refl) in
    omega (arith, alone, this, all, once, same)
  where
    own : ℕ → ℕ
    own w = if from == w then gone run (went_by count from to) (at w) else 0

    of_other : (w : ℕ) → (from ≡ w → ⊥) → (ts : List Trip) → AllByRecursion (λ t. t.worker ≡ w) ts → sum_by (hand_by count from to) ts ≡ 0
    of_other w not [] all = refl
    of_other w not (t ∷ ts) all =
        let rest = of_other w not ts all.1 in
        let one : hand_by count from to t ≡ 0 = other t.worker (λ e. not (sym e ∙ all.0)) (onward t) in
        omega (arith, rest, one, sum_by-cons (hand_by count from to) t ts)
      where
        other : (worker : ℕ) → (worker ≡ from → ⊥) → (o : Option Arrival) → goes_over_by count from to worker o ≡ 0
        other worker not None = refl
        other worker not (Some (Drawn number bytes)) = refl
        other worker not (Some (Taken next node c)) = ap (λ (b : Bool). if b && next == to then count c.packet.number else 0) (ne_eqb worker from not)

    of_own : (ts : List Trip) → AllByRecursion (λ t. t.worker ≡ from) ts → sum_by (hand_by count from to) ts ≡ sum_by (λ t. count_some (went_by count from to) (onward t)) ts
    of_own [] all = refl
    of_own (t ∷ ts) all =
        let rest = of_own ts all.1 in
        let one : hand_by count from to t ≡ count_some (went_by count from to) (onward t) = ap (λ w. goes_over_by count from to w (onward t)) all.0 ∙ sym (went_by_is count from to (onward t)) in
        omega (arith, rest, one, sum_by-cons (hand_by count from to) t ts, sum_by-cons (λ t. count_some (went_by count from to) (onward t)) t ts)

    each : (w : ℕ) (stand : StandsFor run traced w (at w)) → sum_by (hand_by count from to) stand.trips ≡ own w
    each w stand = here (same_or_not from w)
      where
        owns : AllByRecursion (λ t. t.worker ≡ w) stand.trips
        owns = all_mono (λ t. t.worker ≡ (at w).worker) (λ t. t.worker ≡ w) (λ t e. e ∙ stand.adds.same_worker) stand.trips stand.adds.own

        here : (from ≡ w) ⊎ (from ≡ w → ⊥) → sum_by (hand_by count from to) stand.trips ≡ own w
        here (inr not) = of_other w not stand.trips owns ∙ sym (ap (λ (b : Bool). if b then gone run (went_by count from to) (at w) else 0) (ne_eqb from w not))
        here (inl is) =
            let e = stand.adds.went (went_by count from to) in
            let z = gone_none run traced w (went_by count from to) in
            let mine = of_own stand.trips (all_mono (λ t. t.worker ≡ w) (λ t. t.worker ≡ from) (λ t e. e ∙ sym is) stand.trips owns) in
            let same : own w ≡ gone run (went_by count from to) (at w) = ap (λ (b : Bool). if b then gone run (went_by count from to) (at w) else 0) (eq-eqb from w is) in
            omega (arith, e, z, mine, same)
