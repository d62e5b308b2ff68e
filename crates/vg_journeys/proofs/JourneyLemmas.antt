-- For `laws::trips_are_journeys`: all trips of a run make journeys under lawful choices.
use Rattle.std.proofs.Common.{◌≡◌, ℕ, suc, ◌+◌, ◌*◌, ◌≤◌, List, [], ◌∷◌, ◌++◌, length, map, refl, sym, ap, subst, ◌∙◌, arith, zero-add}
use Rattle.std.specs.Prelude.{Option, Some, None}
use Rattle.std.specs.List.{sum_by, AllByRecursion, flat_map, cons_option}
use Rattle.std.proofs.lemmas.List.Sums.{sum_by-cons}
use Rattle.vg_model.specs.declared.fates.Leg.{Leg}
use Rattle.vg_model.specs.Journey as model
use Rattle.vg_model.specs.Journey.{Journey}
use Rattle.vg_model.specs.Count.{trace}
use Rattle.vg_model.specs.Lawful.{hands, hands_in, StartsAt, IsRefusalLawful}
use Rattle.vg_counters.specs.Notes.{all_legs}
use Rattle.vg_journeys.specs.Chains.{count_some, AreChains}
use Rattle.vg_journeys.specs.Trips.{is_of, Run, legs_before, Trip, contents_after, onward, logged, sent_by_trip, trip_visits, noted_of, IsTrip}
use Rattle.vg_journeys.specs.Treks.{journey_of, hand_of, hand_by, IsRefusal, drawn_from, journeys_of}
use Rattle.vg_journeys.specs.Runs.{AreAllTrips, AreJourneys}
use Rattle.vg_journeys.proofs.FlowLemmas.{in_chains}
use Rattle.vg_journeys.proofs.SameArrivals.{same_arrival, same_arrival_decides}
use Rattle.vg_journeys.proofs.TrekLemmas.{starts_at}
use Rattle.vg_journeys.proofs.RunLemmas.{sum_filter_map, sum_flat_map, all_first, all_both, each_journey, sums_are, journeys_are, fate_once, sent_of_trek, trace_is, hands_of_trek, IsGood, refusal_of_trek, legs_rise}
use Rattle.vg_journeys.proofs.InsideLemmas.{journeys_inside}
use Rattle.vg_journeys.proofs.HandLemmas.{hands_by_trek}
use Rattle.vg_journeys.proofs.PieceLemmas.{chains_kept, freed_treks}
use Rattle.vg_journeys.proofs.NoteLemmas.{IsPlaced, placed, one_trip, same_given, noted_none, noted_trek}

-- the theorem
pub journeys_of_trips : (run : Run) (trips : List Trip)
    → AreAllTrips run trips → AreJourneys run trips
journeys_of_trips run trips are =
    let P : Trip → Type 0 = IsTrip run in
    let accepted : ℕ → ℕ → ℕ = λ from to. sum_by (hand_of from to) trips in
    let Good : Trip → Type 0 = IsGood run accepted in
    let found = in_chains (λ (t : Trip). t.arrival) onward (λ e. length (legs_before e)) Good same_arrival same_arrival_decides (λ t good. legs_rise t)
    (drawn_from 0 run.packets) trips (all_both P (λ t. IsRefusal run.slots accepted t.worker t.way.outcome t.refused) trips are.each are.refusals) are.flow in
    let treks : List (List Trip) = found.chains in
    let js : List Journey = journeys_of 0 treks in
    let good : AllByRecursion (AllByRecursion P) treks = firsts Good P (all_first P (λ t. IsRefusal run.slots accepted t.worker t.way.outcome t.refused)) treks found.each in
    let hands_same : (from to : ℕ) → sum_by (hand_of from to) trips ≡ hands from to js = λ from to.
    found.same (hand_of from to)
    ∙ sums_are P (hand_of from to) (λ j. hands_in from to j.course.legs) (hands_of_trek run from to) 0 run.packets treks found.are good in
    let few : (from to : ℕ) → accepted from to ≤ hands from to js = λ from to. (let h = hands_same from to in omega (arith, h)) in
    record {
      treks = treks;
      js = js;
      lawful = record {
        are_journeys = journeys_are run 0 run.packets treks found.are good;
        lawful = record {
          generations = each_journey P (λ j. StartsAt (length run.graphs) (run.first j.number) (map (λ (l : Leg). l.generation) j.course.legs)) (starts_at run) 0 run.packets treks found.are good;
          refusals = each_journey Good (λ j. IsRefusalLawful run.slots js j j.accepted j.course.outcome) (refusal_of_trek run accepted js few) 0 run.packets treks found.are found.each;
        };
      };
      inside = journeys_inside run run.packets treks found.are good;
      fates_are = λ count. found.same (λ t. count_some count (logged t))
          ∙ sums_are P (λ t. count_some count (logged t)) (λ j. count (model.fate_of j))
          (λ number bytes trek is all. sym (sum_filter_map count logged trek) ∙ ap (sum_by count) (fate_once run number bytes trek is all) ∙ one_of count (model.fate_of (journey_of number trek)))
          0 run.packets treks found.are good ∙ sym (sum_map count model.fate_of js);
      sent_are = λ count. found.same (λ t. count_some count (sent_by_trip t))
          ∙ sums_are P (λ t. count_some count (sent_by_trip t)) (λ j. count_some count (model.sent_of j))
          (λ number bytes trek is all. sym (sum_filter_map count sent_by_trip trek) ∙ ap (sum_by count) (sent_of_trek run number bytes trek is all) ∙ some_of count (model.sent_of (journey_of number trek)))
          0 run.packets treks found.are good ∙ sym (sum_filter_map count model.sent_of js);
      visits_are = λ count. found.same (λ t. sum_by count (trip_visits t))
          ∙ sums_are P (λ t. sum_by count (trip_visits t)) (λ j. sum_by count (trace j))
          (λ number bytes trek is all. sym (sum_flat_map count trip_visits trek) ∙ ap (sum_by count) (trace_is number bytes trek is))
          0 run.packets treks found.are good;
      chains = chains_kept 0 run.packets treks found.are;
      freed_are = λ count. found.same (λ t. count_some (λ f. count f (contents_after t).pieces) (logged t)) ∙ freed_treks run count run.packets [] run.packets treks 0 refl refl found.are good;
      hands_are = hands_same;
      hands_by = λ count from to. found.same (hand_by count from to)
          ∙ sums_are P (hand_by count from to) (λ j. count j.number * hands_in from to j.course.legs)
          (λ number bytes trek is all. hands_by_trek run count from to number bytes trek is all) 0 run.packets treks found.are good;
      once = λ number leg h.
          let at = placed run 0 number run.packets treks h found.are good in
          let trek = at_zero run number run.packets treks at in
          let one = one_trip run number leg trek.bytes trek.trek trek.is in
          let same = found.same (is_of number leg) in
          let here = trek.same leg (is_of number leg) (λ t z. z) in
          omega (arith, one, same, here);
      traces = λ number h.
          let at = placed run 0 number run.packets treks h found.are good in
          let trek = at_zero run number run.packets treks at in
          flat_same (λ leg. flat_map (noted_of number leg) trips) (λ leg. flat_map (noted_of number leg) trek.trek)
          (λ leg.
          let one = one_trip run number leg trek.bytes trek.trek trek.is in
          let same = found.same (is_of number leg) in
          let here = trek.same leg (is_of number leg) (λ t z. z) in
          same_given (noted_of number leg) (is_of number leg) (noted_none number leg) trips trek.trek (omega (arith, one, same, here)) (λ c zeros. found.same c ∙ trek.same leg c zeros)) all_legs
          ∙ noted_trek run number trek.bytes trek.trek trek.is trek.all ∙ sym trek.at;
      as_many = length_treks 0 run.packets treks found.are;
    }
  where
    at_zero : (run : Run) (number : ℕ) (packets : List (List ℕ)) (treks : List (List Trip)) → IsPlaced run (0 + number) 0 number packets treks → IsPlaced run number 0 number packets treks
    at_zero run number packets treks at = subst (λ n. IsPlaced run n 0 number packets treks) (zero-add number) at

    flat_same : {X : Type 0} (f h : X → List ℕ) → ((x : X) → f x ≡ h x) → (xs : List X) → flat_map f xs ≡ flat_map h xs
    flat_same f h each [] = refl
    flat_same f h each (x ∷ xs) = ap (λ l. l ++ flat_map f xs) (each x) ∙ ap (λ l. h x ++ l) (flat_same f h each xs)

    length_treks : (number : ℕ) (packets : List (List ℕ)) (treks : List (List Trip)) → AreChains (λ (t : Trip). t.arrival) onward (drawn_from number packets) treks
        → length (journeys_of number treks) ≡ length packets
    length_treks number [] [] are = refl
    length_treks number (bytes ∷ packets) (trek ∷ treks) are = ap suc (length_treks (number + 1) packets treks are.1)
    length_treks number [] (trek ∷ treks) are = absurd are
    length_treks number (bytes ∷ packets) [] are = absurd are

    firsts : (Good P : Trip → Type 0) → ((xs : List Trip) → AllByRecursion Good xs → AllByRecursion P xs) → (treks : List (List Trip)) → AllByRecursion (AllByRecursion Good) treks → AllByRecursion (AllByRecursion P) treks
    firsts Good P each [] all = tt
    firsts Good P each (trek ∷ treks) all = (each trek all.0, firsts Good P each treks all.1)

    one_of : {X : Type 0} (count : X → ℕ) (x : X) → sum_by count (x ∷ []) ≡ count x
    one_of count x = omega (arith, sum_by-cons count x [])

    some_of : {X : Type 0} (count : X → ℕ) (o : Option X) → sum_by count (cons_option o []) ≡ count_some count o
    some_of count None = refl
    some_of count (Some x) = omega (arith, sum_by-cons count x [])

    sum_map : {X Y : Type 0} (f : Y → ℕ) (h : X → Y) (xs : List X) → sum_by f (map h xs) ≡ sum_by (λ x. f (h x)) xs
    sum_map f h [] = refl
    sum_map f h (x ∷ xs) = let rest = sum_map f h xs in omega (arith, rest, sum_by-cons f (h x) (map h xs), sum_by-cons (λ x. f (h x)) x xs)
