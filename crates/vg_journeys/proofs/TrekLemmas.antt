-- For `laws::trips_are_journeys`: a trek is a journey.
use Rattle.std.proofs.Common.{◌≡◌, ℕ, suc, ◌+◌, ◌%◌, ◌≤◌, true, List, [], ◌∷◌, ◌++◌, length, map, refl, sym, ap, subst, ◌∙◌, arith, append_assoc, append-nil, length-append}
use Rattle.std.specs.Prelude.{Option, Some, None, option_map, ◌==◌, ◌&&◌, if◌then◌else◌}
use Rattle.std.specs.List.{sum_by, AllByRecursion, filter_map, flat_map, cons_option}
use Rattle.std.proofs.lemmas.List.Sums.{sum_by-cons}
use Rattle.std.proofs.lemmas.Option.{none-some, same_Some, slice_get_within}
use Rattle.vg_model.specs.declared.fates.Leg.{Leg}
use Rattle.vg_model.specs.Graph.{Graph, handoff_dequeue}
use Rattle.vg_model.specs.Leg.{Outcome, Sent, Dropped, Handed}
use Rattle.vg_model.specs.Journey.{leg_from, legs_from, handed_over, then_course, goes_together, journey, end_of, sent_as}
use Rattle.vg_model.specs.Count.{drop_visit}
use Rattle.vg_model.specs.Lawful.{hands_in, NeverFall, StartsAt}
use Rattle.vg_model.proofs.Journeys.{legs_front}
use Rattle.vg_pool.specs.Contents.{Contents}
use Rattle.vg_journeys.specs.Chains.{IsChain}
use Rattle.vg_journeys.specs.Trips.{Arrival, Run, Drawn, Taken, number_of, legs_before, worker_of, arrival_leg, Trip, here, legs_of, contents_after, onward_by, onward, fate_by, logged_by, logged, sent_by_trip, last_visits, trip_visits, last_generation, IsInTime, IsHandover, IsTrip}
use Rattle.vg_journeys.specs.Treks.{IsTrek, course_of, refused_of, journey_of, choice_of, goes_over, hand_of}

-- where nothing follows, nothing is due
pub is_last : {X Y : Type 0} (begin : X → Y) (go : X → Option Y) (due : Option Y) → IsChain begin go due [] → due ≡ None
is_last begin go None is = refl
is_last begin go (Some y) is = absurd is

-- what follows begins where it is due
pub is_next : {X Y : Type 0} (begin : X → Y) (go : X → Option Y) (due : Option Y) (x : X) (xs : List X) → IsChain begin go due (x ∷ xs)
    → (due ≡ Some (begin x)) × IsChain begin go (go x) xs
is_next begin go None x xs is = absurd is
is_next begin go (Some y) x xs is = (ap Some (sym is.0), is.1)

-- a packet that goes on was handed over, and its push was accepted
pub goes_on : (c : Contents) (outcome : Outcome) (refused : Option ℕ) (e : Arrival) → onward_by c outcome refused ≡ Some e
    → (node : ℕ) × (to : ℕ) × (outcome ≡ Handed node to) × (refused ≡ None) × (Taken to node c ≡ e)
goes_on c (Handed node to) None e is = (node, to, refl, refl, same_Some _ e is)
goes_on c (Handed node to) (Some accepted) e is = absurd (none-some e is)
goes_on c (Sent interface) refused e is = absurd (none-some e is)
goes_on c (Dropped node error) refused e is = absurd (none-some e is)

-- the trip behind another one
pub record IsBehind (t u : Trip) : Type 0 where
  pub node : ℕ
  pub to : ℕ
  pub outcome : t.way.outcome ≡ Handed node to
  pub accepted : t.refused ≡ None
  pub arrival : Taken to node (contents_after t) ≡ u.arrival

pub behind : (t u : Trip) (us : List Trip) → IsTrek (onward t) (u ∷ us) → IsBehind t u
behind t u us is =
    let next = is_next (λ (t : Trip). t.arrival) onward (onward t) u us is in
    let on = goes_on (contents_after t) t.way.outcome t.refused u.arrival next.0 in
    record { node = on.0; to = on.1; outcome = on.2; accepted = on.3; arrival = on.4 }

pub later : (t u : Trip) (us : List Trip) → IsTrek (onward t) (u ∷ us) → IsTrek (onward u) us
later t u us is = (is_next (λ (t : Trip). t.arrival) onward (onward t) u us is).1

pub last_trip : (t : Trip) → IsTrek (onward t) [] → onward t ≡ None
last_trip t is = is_last (λ (t : Trip). t.arrival) onward (onward t) is

-- one leg more
pub legs_more : (t : Trip) → length (legs_of t) ≡ suc (length (legs_before t.arrival))
legs_more t = omega (arith, length-append (legs_before t.arrival) (here t ∷ []))

-- the trips behind a leg are the legs of the journey behind it
legs_are : (run : Run) (t : Trip) (ts : List Trip) → IsTrek (onward t) ts
    → AllByRecursion (IsTrip run) (t ∷ ts)
    → legs_from run.visit run.graphs run.workers t.worker (suc (length (legs_before t.arrival))) t.generation (map (λ (t : Trip). t.generation) ts) (Some t.way) ≡ Some (course_of (t ∷ ts))
legs_are run t [] is all = refl
legs_are run t (u ∷ us) is all =
    let next = behind t u us is in
    let trip = all.1.0 in
    let k : ℕ = suc (length (legs_before t.arrival)) in
    let same_legs : length (legs_before u.arrival) ≡ k = ap (λ e. length (legs_before e)) (sym next.arrival) ∙ legs_more t in
    let to : next.to ≡ u.worker = ap (worker_of run.workers) next.arrival ∙ sym trip.is_worker in
    let way : leg_from run.visit trip.graph run.workers u.worker (suc (length (legs_of t))) handoff_dequeue next.node t.way.packet ≡ Some u.way =
    ap (arrival_leg run.visit trip.graph run.workers u.worker) next.arrival ∙ trip.is_way in
    let same_way : leg_from run.visit trip.graph run.workers next.to (suc k) handoff_dequeue next.node t.way.packet ≡ Some u.way =
    ap (λ w. leg_from run.visit trip.graph run.workers w (suc k) handoff_dequeue next.node t.way.packet) to
    ∙ ap (λ n. leg_from run.visit trip.graph run.workers u.worker (suc n) handoff_dequeue next.node t.way.packet) (sym (legs_more t)) ∙ way in
    let rest = legs_are run u us (later t u us is) all.1 in
    legs_front run.visit run.graphs run.workers t.worker k t.generation u.generation (map (λ (t : Trip). t.generation) us) t.way (next.node, next.to) trip.graph
    (ap handed_over next.outcome) trip.is_graph
    ∙ ap (λ w. option_map (then_course (here t) t.way) (legs_from run.visit run.graphs run.workers next.to (suc k) u.generation (map (λ (t : Trip). t.generation) us) w)) same_way
    ∙ ap (λ w. option_map (then_course (here t) t.way) (legs_from run.visit run.graphs run.workers w (suc k) u.generation (map (λ (t : Trip). t.generation) us) (Some u.way))) to
    ∙ ap (λ n. option_map (then_course (here t) t.way) (legs_from run.visit run.graphs run.workers u.worker (suc n) u.generation (map (λ (t : Trip). t.generation) us) (Some u.way))) (sym same_legs)
    ∙ ap (option_map (then_course (here t) t.way)) rest

-- how a packet ends that goes on nowhere
pub stays : (c : Contents) (outcome : Outcome) (refused : Option ℕ) → onward_by c outcome refused ≡ None
    → (logged_by c outcome refused ≡ Some (fate_by c outcome refused)) × (last_visits outcome refused ≡ drop_visit (end_of outcome))
stays c (Handed node to) None is = absurd (none-some (Taken to node c) (sym is))
stays c (Handed node to) (Some accepted) is = (refl, refl)
stays c (Sent interface) refused is = (refl, refl)
stays c (Dropped node error) refused is = (refl, refl)

fits : (g : Graph) (workers worker legs : ℕ) (c : Contents) (outcome : Outcome) (refused : Option ℕ) → onward_by c outcome refused ≡ None → IsHandover g workers worker legs outcome refused
    → goes_together refused outcome ≡ true
fits g workers worker legs c (Handed node to) None is over = absurd (none-some (Taken to node c) (sym is))
fits g workers worker legs c (Handed node to) (Some accepted) is over = refl
fits g workers worker legs c (Sent interface) refused is over = ap (λ r. goes_together r (Sent interface)) over
fits g workers worker legs c (Dropped node error) refused is over = ap (λ r. goes_together r (Dropped node error)) over

-- the choice fits how the last trip ends
fits_all : (run : Run) (t : Trip) (ts : List Trip) → IsTrek (onward t) ts
    → AllByRecursion (IsTrip run) (t ∷ ts) → goes_together (refused_of (t ∷ ts)) (course_of (t ∷ ts)).outcome ≡ true
fits_all run t [] is all =
    fits all.0.graph run.workers t.worker (length (legs_before t.arrival)) (contents_after t) t.way.outcome t.refused (last_trip t is) all.0.handover
fits_all run t (u ∷ us) is all = fits_all run u us (later t u us is) all.1

-- the trek of a packet that was drawn is its journey
pub journey_is : (run : Run) (number : ℕ) (bytes : List ℕ) (trek : List Trip)
    → IsTrek (Some (Drawn number bytes)) trek → AllByRecursion (IsTrip run) trek
    → journey run.visit run.graphs run.workers number bytes (choice_of trek) ≡ Some (journey_of number trek)
journey_is run number bytes [] is all = absurd is
journey_is run number bytes (t ∷ ts) is all =
    let trip = all.0 in
    let worker : t.worker ≡ number % run.workers = trip.is_worker ∙ ap (worker_of run.workers) is.0 in
    let way : arrival_leg run.visit trip.graph run.workers (number % run.workers) (Drawn number bytes) ≡ Some t.way =
    ap (λ w. arrival_leg run.visit trip.graph run.workers w (Drawn number bytes)) (sym worker) ∙ ap (arrival_leg run.visit trip.graph run.workers t.worker) (sym is.0) ∙ trip.is_way in
    let legs = legs_are run t ts is.1 all in
    let same : legs_from run.visit run.graphs run.workers (number % run.workers) 1 t.generation (map (λ (t : Trip). t.generation) ts) (Some t.way) ≡ Some (course_of (t ∷ ts)) =
    ap (λ w. legs_from run.visit run.graphs run.workers w 1 t.generation (map (λ (t : Trip). t.generation) ts) (Some t.way)) (sym worker)
    ∙ ap (λ n. legs_from run.visit run.graphs run.workers t.worker (suc n) t.generation (map (λ (t : Trip). t.generation) ts) (Some t.way)) (ap (λ e. length (legs_before e)) (sym is.0)) ∙ legs in
    rw (trip.is_graph, way, same, fits_all run t ts is.1 all) refl

-- what a trip logs, sends and visits, where another follows
on_nothing : (t u : Trip) → IsBehind t u → (logged t ≡ None) × (sent_by_trip t ≡ None) × (trip_visits t ≡ t.way.visits)
on_nothing t u next = (
  ap (λ o. logged_by (contents_after t) o t.refused) next.outcome ∙ ap (logged_by (contents_after t) (Handed next.node next.to)) next.accepted,
  ap (sent_as t.way.packet.number t.way.packet.bytes) next.outcome,
  ap (λ o. t.way.visits ++ last_visits o t.refused) next.outcome ∙ ap (λ r. t.way.visits ++ last_visits (Handed next.node next.to) r) next.accepted ∙ append-nil t.way.visits,
)

-- a trek logs one fate; a packet that is sent is sent once; and the nodes of its trips are those of the journey
pub logged_once : (run : Run) (number : ℕ) (t : Trip) (ts : List Trip) → number ≡ number_of t.arrival → IsTrek (onward t) ts
    → AllByRecursion (IsTrip run) (t ∷ ts)
    → filter_map logged (t ∷ ts) ≡ record { number = number; legs = legs_before t.arrival ++ (course_of (t ∷ ts)).legs; congested = refused_of (t ∷ ts); end = end_of (course_of (t ∷ ts)).outcome } ∷ []
logged_once run number t [] same is all =
    ap (λ o. cons_option o []) (stays (contents_after t) t.way.outcome t.refused (last_trip t is)).0
    ∙ ap (λ n. record { number = n; legs = legs_of t; congested = t.refused; end = end_of t.way.outcome } ∷ []) (all.0.number ∙ sym same)
logged_once run number t (u ∷ us) same is all =
    let next = behind t u us is in
    let legs : legs_of t ≡ legs_before u.arrival = ap legs_before next.arrival in
    let rest = logged_once run number u us (same ∙ sym all.0.number ∙ ap number_of next.arrival) (later t u us is) all.1 in
    ap (λ o. cons_option o (filter_map logged (u ∷ us))) (on_nothing t u next).0
    ∙ rest
    ∙ ap (λ ls. record { number = number; legs = ls ++ (course_of (u ∷ us)).legs; congested = refused_of (u ∷ us); end = end_of (course_of (u ∷ us)).outcome } ∷ []) (sym legs)
    ∙ ap (λ ls. record { number = number; legs = ls; congested = refused_of (u ∷ us); end = end_of (course_of (u ∷ us)).outcome } ∷ [])
    (append_assoc (legs_before t.arrival) (here t ∷ []) (course_of (u ∷ us)).legs)

pub sent_once : (run : Run) (number : ℕ) (t : Trip) (ts : List Trip) → number ≡ number_of t.arrival → IsTrek (onward t) ts
    → AllByRecursion (IsTrip run) (t ∷ ts)
    → filter_map sent_by_trip (t ∷ ts) ≡ cons_option (sent_as number (course_of (t ∷ ts)).packet.bytes (course_of (t ∷ ts)).outcome) []
sent_once run number t [] same is all = ap (λ n. cons_option (sent_as n t.way.packet.bytes t.way.outcome) []) (all.0.number ∙ sym same)
sent_once run number t (u ∷ us) same is all =
    let next = behind t u us is in
    ap (λ o. cons_option o (filter_map sent_by_trip (u ∷ us))) (on_nothing t u next).1
    ∙ sent_once run number u us (same ∙ sym all.0.number ∙ ap number_of next.arrival) (later t u us is) all.1

pub visited_all : (t : Trip) (ts : List Trip) → IsTrek (onward t) ts
    → flat_map trip_visits (t ∷ ts) ≡ (course_of (t ∷ ts)).visits ++ drop_visit (end_of (course_of (t ∷ ts)).outcome)
visited_all t [] is = append-nil (trip_visits t) ∙ ap (λ vs. t.way.visits ++ vs) (stays (contents_after t) t.way.outcome t.refused (last_trip t is)).1
visited_all t (u ∷ us) is =
    ap (λ vs. vs ++ flat_map trip_visits (u ∷ us)) (on_nothing t u (behind t u us is)).2
    ∙ ap (λ vs. t.way.visits ++ vs) (visited_all u us (later t u us is))
    ∙ sym (append_assoc t.way.visits (course_of (u ∷ us)).visits (drop_visit (end_of (course_of (u ∷ us)).outcome)))

-- how often it goes from one worker to another is how often its legs do
pub hands_are : (run : Run) (from to : ℕ) (t : Trip) (ts : List Trip) → IsTrek (onward t) ts
    → AllByRecursion (IsTrip run) (t ∷ ts) → sum_by (hand_of from to) (t ∷ ts) ≡ hands_in from to (course_of (t ∷ ts)).legs
hands_are run from to t [] is all = sum_by-cons (hand_of from to) t [] ∙ ap (λ o. goes_over from to t.worker o + 0) (last_trip t is)
hands_are run from to t (u ∷ us) is all =
    let next = behind t u us is in
    let on : onward t ≡ Some u.arrival = (is_next (λ (t : Trip). t.arrival) onward (onward t) u us is).0 in
    let worker : u.worker ≡ next.to = all.1.0.is_worker ∙ ap (worker_of run.workers) (sym next.arrival) in
    let one : hand_of from to t ≡ (if t.worker == from && u.worker == to then 1 else 0) =
    ap (goes_over from to t.worker) on ∙ ap (λ e. goes_over from to t.worker (Some e)) (sym next.arrival) ∙ ap (λ w. if t.worker == from && w == to then 1 else 0) (sym worker) in
    let rest = hands_are run from to u us (later t u us is) all.1 in
    sum_by-cons (hand_of from to) t (u ∷ us) ∙ ap (λ n. n + sum_by (hand_of from to) (u ∷ us)) one
    ∙ ap (λ n. (if t.worker == from && u.worker == to then 1 else 0) + n) rest ∙ legs_front_two from to (here t) us u
  where
    legs_front_two : (from to : ℕ) (leg : Leg) (us : List Trip) (u : Trip)
        → (if leg.worker == from && u.worker == to then 1 else 0) + hands_in from to (course_of (u ∷ us)).legs ≡ hands_in from to (leg ∷ (course_of (u ∷ us)).legs)
    legs_front_two from to leg [] u = refl
    legs_front_two from to leg (v ∷ vs) u = refl

-- the generation of the last leg
last_is : (legs : List Leg) (leg : Leg) → last_generation (legs ++ leg ∷ []) ≡ leg.generation
last_is [] leg = refl
last_is (l ∷ []) leg = refl
last_is (l ∷ m ∷ ls) leg = last_is (m ∷ ls) leg

-- the generations of a trek never fall
never_fall : (run : Run) (least : ℕ) (t : Trip) (ts : List Trip) → least ≤ t.generation → IsTrek (onward t) ts
    → AllByRecursion (IsTrip run) (t ∷ ts) → NeverFall (length run.graphs) least (map (λ (l : Leg). l.generation) (course_of (t ∷ ts)).legs)
never_fall run least t [] h is all = (h, slice_get_within run.graphs t.generation all.0.graph all.0.is_graph, tt)
never_fall run least t (u ∷ us) h is all =
    let next = behind t u us is in
    let time : last_generation (legs_of t) ≤ u.generation = subst (IsInTime run.first u.generation) (sym next.arrival) all.1.0.in_time in
    let at = last_is (legs_before t.arrival) (here t) in
    (h, slice_get_within run.graphs t.generation all.0.graph all.0.is_graph, never_fall run t.generation u us (omega (arith, time, at)) (later t u us is) all.1)

pub starts_at : (run : Run) (number : ℕ) (bytes : List ℕ) (trek : List Trip)
    → IsTrek (Some (Drawn number bytes)) trek → AllByRecursion (IsTrip run) trek
    → StartsAt (length run.graphs) (run.first number) (map (λ (l : Leg). l.generation) (course_of trek).legs)
starts_at run number bytes [] is all = absurd is
starts_at run number bytes (t ∷ ts) is all =
    let time : t.generation ≡ run.first number = subst (IsInTime run.first t.generation) is.0 all.0.in_time in
    starts t ts time (never_fall run (run.first number) t ts (omega (arith, time)) is.1 all)
  where
    starts : (t : Trip) (ts : List Trip) → t.generation ≡ run.first number → NeverFall (length run.graphs) (run.first number) (map (λ (l : Leg). l.generation) (course_of (t ∷ ts)).legs)
        → StartsAt (length run.graphs) (run.first number) (map (λ (l : Leg). l.generation) (course_of (t ∷ ts)).legs)
    starts t [] time falls = (time, falls)
    starts t (u ∷ us) time falls = (time, falls)
