-- For `laws::trips_are_journeys`: all trips of a run make journeys under lawful choices, trek by trek.
use Rattle.std.proofs.Common.{◌≡◌, ℕ, suc, ◌+◌, ◌≤◌, List, [], ◌∷◌, ◌++◌, length, map, refl, sym, ap, subst, ◌∙◌, arith, length-append, add-one}
use Rattle.std.specs.Prelude.{Option, Some, None}
use Rattle.std.specs.List.{sum_by, AllByRecursion, filter_map, flat_map, cons_option}
use Rattle.std.proofs.lemmas.List.Sums.{sum_by-cons, sum_by-append}
use Rattle.vg_model.specs.declared.fates.Leg.{Leg}
use Rattle.vg_model.specs.Graph.{Graph}
use Rattle.vg_model.specs.Leg.{Outcome, Sent, Dropped, Handed}
use Rattle.vg_model.specs.Journey as model
use Rattle.vg_model.specs.Journey.{Journey, Course, journey, journeys_from, sent_as, end_of}
use Rattle.vg_model.specs.Count.{trace}
use Rattle.vg_model.specs.Lawful.{hands, hands_in, last_worker, IsRefusalLawful}
use Rattle.vg_journeys.specs.Chains.{count_some, AreChains, Rises}
use Rattle.vg_journeys.specs.Trips.{Run, Drawn, number_of, legs_before, Trip, here, legs_of, contents_after, onward, logged, sent_by_trip, trip_visits, IsHandover, IsTrip}
use Rattle.vg_journeys.specs.Treks.{IsTrek, course_of, refused_of, journey_of, choice_of, hand_of, IsRefusal, drawn_from, journeys_of}
use Rattle.vg_journeys.proofs.TrekLemmas.{later, last_trip, goes_on, journey_is, logged_once, sent_once, visited_all, hands_are}

-- sums over what is there
sum_cons_option : {Y : Type 0} (f : Y → ℕ) (o : Option Y) (ys : List Y) → sum_by f (cons_option o ys) ≡ count_some f o + sum_by f ys
sum_cons_option f None ys = omega arith
sum_cons_option f (Some y) ys = sum_by-cons f y ys

pub sum_filter_map : {X Y : Type 0} (f : Y → ℕ) (h : X → Option Y) (xs : List X) → sum_by f (filter_map h xs) ≡ sum_by (λ x. count_some f (h x)) xs
sum_filter_map f h [] = refl
sum_filter_map f h (x ∷ xs) =
    let rest = sum_filter_map f h xs in
    let one = sum_cons_option f (h x) (filter_map h xs) in
    omega (arith, one, rest, sum_by-cons (λ x. count_some f (h x)) x xs)

pub sum_flat_map : {X Y : Type 0} (f : Y → ℕ) (h : X → List Y) (xs : List X) → sum_by f (flat_map h xs) ≡ sum_by (λ x. sum_by f (h x)) xs
sum_flat_map f h [] = refl
sum_flat_map f h (x ∷ xs) =
    let rest = sum_flat_map f h xs in
    omega (arith, rest, sum_by-cons (λ x. sum_by f (h x)) x xs, sum_by-append f (h x) (flat_map h xs))

-- of pairs of facts, the first ones
pub all_first : {X : Type 0} (P Q : X → Type 0) (xs : List X) → AllByRecursion (λ x. P x × Q x) xs → AllByRecursion P xs
all_first P Q [] all = tt
all_first P Q (x ∷ xs) all = (all.0.0, all_first P Q xs all.1)

pub all_both : {X : Type 0} (P Q : X → Type 0) (xs : List X) → AllByRecursion P xs → AllByRecursion Q xs → AllByRecursion (λ x. P x × Q x) xs
all_both P Q [] one two = tt
all_both P Q (x ∷ xs) one two = ((one.0, two.0), all_both P Q xs one.1 two.1)

-- what holds of each trek holds of each journey
pub each_journey : (P : Trip → Type 0) (Q : Journey → Type 0)
    → ((number : ℕ) (bytes : List ℕ) (trek : List Trip) → IsTrek (Some (Drawn number bytes)) trek → AllByRecursion P trek → Q (journey_of number trek))
    → (number : ℕ) (packets : List (List ℕ)) (treks : List (List Trip)) → AreChains (λ (t : Trip). t.arrival) onward (drawn_from number packets) treks
    → AllByRecursion (AllByRecursion P) treks → AllByRecursion Q (journeys_of number treks)
each_journey P Q each number [] [] are all = tt
each_journey P Q each number (bytes ∷ packets) (trek ∷ treks) are all =
    (each number bytes trek are.0 all.0, each_journey P Q each (number + 1) packets treks are.1 all.1)
each_journey P Q each number [] (trek ∷ treks) are all = absurd are
each_journey P Q each number (bytes ∷ packets) [] are all = absurd are

-- and what each trek counts is counted of the journeys
pub sums_are : (P : Trip → Type 0) (f : Trip → ℕ) (h : Journey → ℕ)
    → ((number : ℕ) (bytes : List ℕ) (trek : List Trip) → IsTrek (Some (Drawn number bytes)) trek → AllByRecursion P trek → sum_by f trek ≡ h (journey_of number trek))
    → (number : ℕ) (packets : List (List ℕ)) (treks : List (List Trip)) → AreChains (λ (t : Trip). t.arrival) onward (drawn_from number packets) treks
    → AllByRecursion (AllByRecursion P) treks → sum_by (λ trek. sum_by f trek) treks ≡ sum_by h (journeys_of number treks)
sums_are P f h each number [] [] are all = refl
sums_are P f h each number (bytes ∷ packets) (trek ∷ treks) are all =
    let one = each number bytes trek are.0 all.0 in
    let rest = sums_are P f h each (number + 1) packets treks are.1 all.1 in
    omega (arith, one, rest, sum_by-cons (λ trek. sum_by f trek) trek treks, sum_by-cons h (journey_of number trek) (journeys_of (number + 1) treks))
sums_are P f h each number [] (trek ∷ treks) are all = absurd are
sums_are P f h each number (bytes ∷ packets) [] are all = absurd are

-- the journeys are those of the packets under their choices
pub journeys_are : (run : Run) (number : ℕ) (packets : List (List ℕ)) (treks : List (List Trip))
    → AreChains (λ (t : Trip). t.arrival) onward (drawn_from number packets) treks → AllByRecursion (AllByRecursion (IsTrip run)) treks
    → journeys_from run.visit run.graphs run.workers number packets (map choice_of treks) ≡ Some (journeys_of number treks)
journeys_are run number [] [] are all = refl
journeys_are run number (bytes ∷ packets) (trek ∷ treks) are all =
    let one = journey_is run number bytes trek are.0 all.0 in
    let rest = journeys_are run (number + 1) packets treks are.1 all.1 in
    let next : journeys_from run.visit run.graphs run.workers (suc number) packets (map choice_of treks) ≡ Some (journeys_of (number + 1) treks) =
    ap (λ n. journeys_from run.visit run.graphs run.workers n packets (map choice_of treks)) (sym (add-one number)) ∙ rest in
    rw (one, next) refl
journeys_are run number [] (trek ∷ treks) are all = absurd are
journeys_are run number (bytes ∷ packets) [] are all = absurd are

-- the fate that a trek logs, and what it sends, visits and hands over
pub fate_once : (run : Run) (number : ℕ) (bytes : List ℕ) (trek : List Trip)
    → IsTrek (Some (Drawn number bytes)) trek → AllByRecursion (IsTrip run) trek → filter_map logged trek ≡ model.fate_of (journey_of number trek) ∷ []
fate_once run number bytes [] is all = absurd is
fate_once run number bytes (t ∷ ts) is all =
    logged_once run number t ts (sym (ap number_of is.0)) is.1 all
    ∙ ap (λ e. record { number = number; legs = legs_before e ++ (course_of (t ∷ ts)).legs; congested = refused_of (t ∷ ts); end = end_of (course_of (t ∷ ts)).outcome } ∷ []) is.0

pub sent_of_trek : (run : Run) (number : ℕ) (bytes : List ℕ) (trek : List Trip)
    → IsTrek (Some (Drawn number bytes)) trek → AllByRecursion (IsTrip run) trek → filter_map sent_by_trip trek ≡ cons_option (model.sent_of (journey_of number trek)) []
sent_of_trek run number bytes [] is all = absurd is
sent_of_trek run number bytes (t ∷ ts) is all = sent_once run number t ts (sym (ap number_of is.0)) is.1 all

pub trace_is : (number : ℕ) (bytes : List ℕ) (trek : List Trip) → IsTrek (Some (Drawn number bytes)) trek → flat_map trip_visits trek ≡ trace (journey_of number trek)
trace_is number bytes [] is = absurd is
trace_is number bytes (t ∷ ts) is = visited_all t ts is.1

pub hands_of_trek : (run : Run) (from to number : ℕ) (bytes : List ℕ) (trek : List Trip)
    → IsTrek (Some (Drawn number bytes)) trek → AllByRecursion (IsTrip run) trek → sum_by (hand_of from to) trek ≡ hands_in from to (course_of trek).legs
hands_of_trek run from to number bytes [] is all = absurd is
hands_of_trek run from to number bytes (t ∷ ts) is all = hands_are run from to t ts is.1 all

-- the last trip of a trek
pub record IsEnd (P : Trip → Type 0) (trek : List Trip) : Type 0 where
  pub t : Trip
  pub is : P t
  pub over : onward t ≡ None
  pub refused : refused_of trek ≡ t.refused
  pub outcome : (course_of trek).outcome ≡ t.way.outcome
  pub worker : last_worker (course_of trek).legs ≡ t.worker
  pub packet : (course_of trek).packet ≡ t.way.packet

pub end_of_trek : (P : Trip → Type 0) (t : Trip) (ts : List Trip) → IsTrek (onward t) ts → AllByRecursion P (t ∷ ts) → IsEnd P (t ∷ ts)
end_of_trek P t [] is all = record { t = t; is = all.0; over = last_trip t is; refused = refl; outcome = refl; worker = refl; packet = refl }
end_of_trek P t (u ∷ us) is all =
    let end = end_of_trek P u us (later t u us is) all.1 in
    record { t = end.t; is = end.is; over = end.over; refused = end.refused; outcome = end.outcome; worker = skip (here t) u us ∙ end.worker; packet = end.packet }
  where
    skip : (leg : Leg) (u : Trip) (us : List Trip) → last_worker (leg ∷ (course_of (u ∷ us)).legs) ≡ last_worker (course_of (u ∷ us)).legs
    skip leg u [] = refl
    skip leg u (v ∷ vs) = refl

-- a refused packet names a lawful count
lawful_refusal : (slots : ℕ) (accepted : ℕ → ℕ → ℕ) (js : List Journey) (j : Journey) (g : Graph) (workers worker legs : ℕ) (outcome : Outcome) (refused : Option ℕ)
    → ((from to : ℕ) → accepted from to ≤ hands from to js) → last_worker j.course.legs ≡ worker → IsRefusal slots accepted worker outcome refused
    → IsHandover g workers worker legs outcome refused → IsRefusalLawful slots js j refused outcome
lawful_refusal slots accepted js j g workers worker legs (Handed node to) (Some count) few same is over =
    let most = few worker to in
    let at : hands (last_worker j.course.legs) to js ≡ hands worker to js = ap (λ w. hands w to js) same in
    let high = is.1 in
    (is.0, omega (arith, most, at, high))
lawful_refusal slots accepted js j g workers worker legs (Handed node to) None few same is over = tt
lawful_refusal slots accepted js j g workers worker legs (Sent interface) refused few same is over =
    subst (λ r. IsRefusalLawful slots js j r (Sent interface)) (sym over) tt
lawful_refusal slots accepted js j g workers worker legs (Dropped node error) refused few same is over =
    subst (λ r. IsRefusalLawful slots js j r (Dropped node error)) (sym over) tt

abbrev pub IsGood : (run : Run) (accepted : ℕ → ℕ → ℕ) → Trip → Type 0
IsGood run accepted t = IsTrip run t × IsRefusal run.slots accepted t.worker t.way.outcome t.refused

pub refusal_of_trek : (run : Run) (accepted : ℕ → ℕ → ℕ) (js : List Journey)
    → ((from to : ℕ) → accepted from to ≤ hands from to js) → (number : ℕ) (bytes : List ℕ) (trek : List Trip)
    → IsTrek (Some (Drawn number bytes)) trek → AllByRecursion (IsGood run accepted) trek
    → IsRefusalLawful run.slots js (journey_of number trek) (refused_of trek) (course_of trek).outcome
refusal_of_trek run accepted js few number bytes [] is all = absurd is
refusal_of_trek run accepted js few number bytes (t ∷ ts) is all =
    let end = end_of_trek (IsGood run accepted) t ts is.1 all in
    let u : Trip = end.t in
    let ends : IsRefusalLawful run.slots js (journey_of number (t ∷ ts)) u.refused u.way.outcome =
    lawful_refusal run.slots accepted js (journey_of number (t ∷ ts)) end.is.0.graph run.workers u.worker (length (legs_before u.arrival)) u.way.outcome u.refused few end.worker end.is.1 end.is.0.handover in
    subst (λ o. IsRefusalLawful run.slots js (journey_of number (t ∷ ts)) (refused_of (t ∷ ts)) o) (sym end.outcome)
    (subst (λ r. IsRefusalLawful run.slots js (journey_of number (t ∷ ts)) r u.way.outcome) (sym end.refused) ends)

-- each trip goes on to an arrival with one leg more
pub legs_rise : (t : Trip) → Rises (λ (t : Trip). t.arrival) onward (λ e. length (legs_before e)) t
legs_rise t e is =
    let on = goes_on (contents_after t) t.way.outcome t.refused e is in
    let same : length (legs_of t) ≡ length (legs_before e) = ap (λ e. length (legs_before e)) on.4 in
    omega (arith, same, length-append (legs_before t.arrival) (here t ∷ []))
