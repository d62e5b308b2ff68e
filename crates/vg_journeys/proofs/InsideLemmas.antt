-- For `laws::trips_are_journeys`, clause `inside`: journeys stay inside the graphs.
use Rattle.std.proofs.Common.{◌≡◌, ℕ, ◌+◌, ◌*◌, ◌<◌, ◌≤◌, List, [], ◌∷◌, length, sym, ap, subst, arith, length-append}
use Rattle.std.specs.Prelude.{Some}
use Rattle.std.specs.List.{AllByRecursion, flat_map}
use Rattle.vg_model.specs.Edit.{most_nodes}
use Rattle.vg_model.specs.Graph.{Graph}
use Rattle.vg_model.specs.Growth.{Grows}
use Rattle.vg_model.specs.Leg.{Outcome, Sent, Dropped, Handed}
use Rattle.vg_model.specs.Journey.{end_of}
use Rattle.vg_model.specs.Count.{trace}
use Rattle.vg_journeys.specs.Chains.{AreChains}
use Rattle.vg_journeys.specs.Ends.{IsEndIn, IsOutcomeIn, AreNodesOf, IsShort}
use Rattle.vg_journeys.specs.Trips.{Run, Drawn, legs_before, Trip, onward, trip_visits, IsTrip}
use Rattle.vg_journeys.specs.Treks.{IsTrek, course_of, journey_of, drawn_from, journeys_of}
use Rattle.vg_journeys.specs.Runs.{AllGrow, AreInside}
use Rattle.vg_journeys.proofs.AccountLemmas.{all_append, all_mono}
use Rattle.vg_journeys.proofs.RunLemmas.{each_journey, end_of_trek, trace_is}
use Rattle.vg_journeys.proofs.NoteLemmas.{few_trips}

end_grows : (g last : Graph) (outcome : Outcome) → Grows g last → IsOutcomeIn g outcome → IsEndIn last (end_of outcome)
end_grows g last (Sent interface) grows inside = let h = grows.interfaces in omega (arith, h, inside)
end_grows g last (Dropped node error) grows inside = let h = grows.nodes in omega (arith, h, inside)
end_grows g last (Handed node to) grows inside = let h = grows.nodes in omega (arith, h, inside)

ends_inside : (run : Run) (last : Graph) → AllGrow run last → (number : ℕ) (bytes : List ℕ) (trek : List Trip) → IsTrek (Some (Drawn number bytes)) trek → AllByRecursion (IsTrip run) trek
    → IsEndIn last (end_of (course_of trek).outcome)
ends_inside run last grows number bytes [] is all = absurd is
ends_inside run last grows number bytes (t ∷ ts) is all =
    let end = end_of_trek (IsTrip run) t ts is.1 all in
    subst (λ o. IsEndIn last (end_of o)) (sym end.outcome) (end_grows end.is.graph last end.t.way.outcome (grows end.t.generation end.is.graph end.is.is_graph) end.is.inside)

short_inside : (run : Run) (number : ℕ) (bytes : List ℕ) (trek : List Trip) → IsTrek (Some (Drawn number bytes)) trek → AllByRecursion (IsTrip run) trek
    → IsShort (course_of trek).outcome (course_of trek).packet
short_inside run number bytes [] is all = absurd is
short_inside run number bytes (t ∷ ts) is all =
    let end = end_of_trek (IsTrip run) t ts is.1 all in
    subst (λ o. IsShort o (course_of (t ∷ ts)).packet) (sym end.outcome) (subst (λ p. IsShort end.t.way.outcome p) (sym end.packet) end.is.short)

all_visits : (run : Run) (last : Graph) → AllGrow run last → (ts : List Trip) → AllByRecursion (IsTrip run) ts → AreNodesOf last (flat_map trip_visits ts)
all_visits run last grows [] all = tt
all_visits run last grows (t ∷ ts) all =
    let more = (grows t.generation all.0.graph all.0.is_graph).nodes in
    all_append (λ node. node < length last.nodes) (trip_visits t) (flat_map trip_visits ts)
    (all_mono (λ node. node < length all.0.graph.nodes) (λ node. node < length last.nodes) (λ node h. omega (arith, h, more)) (trip_visits t) all.0.passes)
    (all_visits run last grows ts all.1)

few_visits : (run : Run) (ts : List Trip) → AllByRecursion (IsTrip run) ts → length (flat_map trip_visits ts) ≤ length ts * (most_nodes + 2)
few_visits run [] all = omega arith
few_visits run (t ∷ ts) all =
    let one = all.0.few in
    let rest = few_visits run ts all.1 in
    omega (arith, one, rest, length-append (trip_visits t) (flat_map trip_visits ts))

few_inside : (run : Run) (number : ℕ) (bytes : List ℕ) (trek : List Trip) → IsTrek (Some (Drawn number bytes)) trek → AllByRecursion (IsTrip run) trek
    → length (trace (journey_of number trek)) ≤ 4 * (most_nodes + 2)
few_inside run number bytes [] is all = absurd is
few_inside run number bytes (t ∷ ts) is all =
    let none : length (legs_before t.arrival) ≡ 0 = ap (λ e. length (legs_before e)) is.0 in
    let trips = few_trips run t ts (omega (arith, none)) is.1 all in
    let visits = few_visits run (t ∷ ts) all in
    let same = ap length (trace_is number bytes (t ∷ ts) is) in
    omega (arith, none, trips, visits, same)

pub journeys_inside : (run : Run) (packets : List (List ℕ)) (treks : List (List Trip)) → AreChains (λ (t : Trip). t.arrival) onward (drawn_from 0 packets) treks
    → AllByRecursion (AllByRecursion (IsTrip run)) treks → AreInside run (journeys_of 0 treks)
journeys_inside run packets treks are all = record {
  ends = λ last grows. each_journey (IsTrip run) (λ j. IsEndIn last (end_of j.course.outcome)) (ends_inside run last grows) 0 packets treks are all;
  nodes = λ last grows. each_journey (IsTrip run) (λ j. AreNodesOf last (trace j))
      (λ number bytes trek is good. subst (AreNodesOf last) (trace_is number bytes trek is) (all_visits run last grows trek good)) 0 packets treks are all;
  few = each_journey (IsTrip run) (λ j. length (trace j) ≤ 4 * (most_nodes + 2)) (few_inside run) 0 packets treks are all;
  short = each_journey (IsTrip run) (λ j. IsShort j.course.outcome j.course.packet) (short_inside run) 0 packets treks are all;
}
