-- For `laws::kept_in_the_end`: at the end of a run the trips of all workers are all trips.
use Rattle.std.proofs.Common.{◌≡◌, ℕ, ◌<◌, ◌≤◌, List, [], ◌∷◌, length, map, refl, sym, ap, subst, ◌∙◌, arith}
use Rattle.std.specs.Prelude.{Option, Some, None}
use Rattle.std.specs.List.{sum_by, AllByRecursion}
use Rattle.std.proofs.lemmas.List.Sums.{sum_by-cons, sum_by-append}
use Rattle.vg_model.specs.Graph.{Graph}
use Rattle.vg_model.specs.Leg.{Outcome, Sent, Dropped, Handed}
use Rattle.vg_pool.specs.Contents.{Contents}
use Rattle.vg_journeys.specs.Trips.{Run, Arrival, Taken, legs_before, Trip, IsHandover, IsTrip}
use Rattle.vg_journeys.specs.Treks.{IsRefusal, hand_of}
use Rattle.vg_journeys.specs.Runs.{AreAllTrips}
use Rattle.vg_journeys.specs.Accounts.{HandoffFrame, Account, frames_with, frame_arrivals, arrivals_in, below}
use Rattle.vg_journeys.specs.Moments.{StandsFor, trips_of, IsMoment, on_the_way, IsOver}
use Rattle.vg_journeys.proofs.JoinLemmas.{sum_at, sum_none, all_below, all_made, conserved, all_drawn}
use Rattle.vg_journeys.proofs.HandLemmas.{over_queue}

-- how many frames a queue accepted is at most how many packets went over it
frames_few : (count : Arrival → ℕ) (to : ℕ) (frames : List HandoffFrame) → ((node : ℕ) (c : Contents) → count (Taken to node c) ≡ 1) → AllByRecursion (λ frame. 1 ≤ length frame.packets) frames
    → length frames ≤ sum_by count (arrivals_in to frames)
frames_few count to [] each full = omega arith
frames_few count to (frame ∷ frames) each full =
    let rest = frames_few count to frames each full.1 in
    let here = packets_of frame.packets in
    let some = full.0 in
    omega (arith, rest, here, some, sum_by-append count (frame_arrivals to frame) (arrivals_in to frames))
  where
    packets_of : (cs : List Contents) → sum_by count (map (Taken to frame.node) cs) ≡ length cs
    packets_of [] = refl
    packets_of (c ∷ cs) =
        let more = packets_of cs in
        let one = each frame.node c in
        omega (arith, more, one, sum_by-cons count (Taken to frame.node c) (map (Taken to frame.node) cs))

accepted_few : (run : Run) (traced : ℕ) (at : ℕ → Account) (rest : ℕ → ℕ → List HandoffFrame) (moment : IsMoment run traced at rest) (from to : ℕ) → from < run.workers → to < run.workers
    → length (frames_with to (at from).put) ≤ sum_by (hand_of from to) (trips_of run traced at (below run.workers) moment.stand)
accepted_few run traced at rest moment from to hf ht =
    let frames = frames_few (λ e. 1) to (frames_with to (at from).put) (λ node c. refl) (moment.full from to hf ht) in
    let over = over_queue run traced at rest moment from to hf ht (λ number. 1) in
    omega (arith, frames, over)

-- a refused packet names no more than what went over the queue in all
refusal_of_all : (slots workers : ℕ) (g : Graph) (less more : ℕ → ℕ → ℕ) (worker legs : ℕ) (outcome : Outcome) (refused : Option ℕ) → ((to : ℕ) → to < workers → less worker to ≤ more worker to)
    → IsHandover g workers worker legs outcome refused → IsRefusal slots less worker outcome refused → IsRefusal slots more worker outcome refused
refusal_of_all slots workers g less more worker legs (Handed node to) (Some count) few over is = (is.0, let h = is.1 in let k = few to over.1 in omega (arith, h, k))
refusal_of_all slots workers g less more worker legs (Handed node to) None few over is = tt
refusal_of_all slots workers g less more worker legs (Sent interface) refused few over is = tt
refusal_of_all slots workers g less more worker legs (Dropped node error) refused few over is = tt

-- at the end the trips of all workers are all trips
pub all_trips : (run : Run) (traced : ℕ) (at : ℕ → Account) (rest : ℕ → ℕ → List HandoffFrame) (moment : IsMoment run traced at rest) → 0 < run.workers → IsOver run at rest
    → AreAllTrips run (trips_of run traced at (below run.workers) moment.stand)
all_trips run traced at rest moment some over =
    let ws : List ℕ = below run.workers in
    let trips : List Trip = trips_of run traced at ws moment.stand in
    let low : AllByRecursion (λ w. w < run.workers) ws = all_below (λ w. w < run.workers) run.workers (λ w h. h) in
    record {
      each = all_made run traced at (IsTrip run) (λ w stand. stand.adds.each) ws moment.stand;
      refusals = all_made run traced at (λ t. IsRefusal run.slots (λ from to. sum_by (hand_of from to) trips) t.worker t.way.outcome t.refused)
          (λ w stand. lawful w stand trips (λ to h. accepted_few run traced at rest moment w to stand.within h) stand.trips stand.adds.each stand.adds.own stand.adds.refusals) ws moment.stand;
      flow = λ count.
          let e = conserved run traced at rest moment count in
          let drawn = all_drawn run.workers 0 (λ w. (at w).mark) count run.packets some (λ w h. let d = over.drawn w h in omega (arith, d)) in
          let none : on_the_way run rest count ≡ 0 =
          sum_at (λ from. sum_by (λ to. sum_by count (arrivals_in to (rest from to))) ws) (λ from. 0) (λ w. w < run.workers) ws low
          (λ from hf. sum_at (λ to. sum_by count (arrivals_in to (rest from to))) (λ to. 0) (λ w. w < run.workers) ws low
          (λ to ht. ap (λ frames. sum_by count (arrivals_in to frames)) (over.empty from to hf ht)) ∙ sum_none (λ to. 0) (λ to. refl) ws)
          ∙ sum_none (λ from. 0) (λ from. refl) ws in
          omega (arith, e, drawn, none);
    }
  where
    lawful : (w : ℕ) (stand : StandsFor run traced w (at w)) (trips : List Trip) → ((to : ℕ) → to < run.workers → length (frames_with to (at w).put) ≤ sum_by (hand_of w to) trips)
        → (ts : List Trip) → AllByRecursion (IsTrip run) ts → AllByRecursion (λ t. t.worker ≡ (at w).worker) ts
        → AllByRecursion (λ t. IsRefusal run.slots (λ from to. length (frames_with to (at w).put)) t.worker t.way.outcome t.refused) ts
        → AllByRecursion (λ t. IsRefusal run.slots (λ from to. sum_by (hand_of from to) trips) t.worker t.way.outcome t.refused) ts
    lawful w stand trips few [] each own is = tt
    lawful w stand trips few (t ∷ ts) each own is = (
      refusal_of_all run.slots run.workers each.0.graph (λ from to. length (frames_with to (at w).put)) (λ from to. sum_by (hand_of from to) trips) t.worker (length (legs_before t.arrival)) t.way.outcome t.refused
          (λ to h. subst (λ v. length (frames_with to (at w).put) ≤ sum_by (hand_of v to) trips) (sym (own.0 ∙ stand.adds.same_worker)) (few to h)) each.0.handover is.0,
      lawful w stand trips few ts each.1 own.1 is.1,
    )
