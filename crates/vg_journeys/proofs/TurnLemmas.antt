-- For `laws::turns_add_trips`, and the clauses `under` and `counted` of `laws::turns_run_under_their_generation`: a turn adds trips.
use Rattle.std.proofs.Common.{◌≡◌, ℕ, zero, suc, ◌+◌, ◌<◌, ◌≤◌, ◌⊎◌, inl, inr, Bool, true, false, cond, List, [], ◌∷◌, ◌++◌, length, map, refl, sym, ap, subst, ◌∙◌, arith, append-nil, append_assoc, length-append}
use Rattle.std.specs.Prelude.{Option, Some, None, option_map, unwrap_or, slice_get, ◌==◌, ◌&&◌, if◌then◌else◌}
use Rattle.std.specs.List.{sum_by, count_by, AllByRecursion, filter_map, flat_map, cons_option}
use Rattle.std.proofs.lemmas.List.Sums.{sum_by-cons, sum_by-append}
use Rattle.std.proofs.lemmas.Option.{same_Some}
use Rattle.vg_model.specs.declared.fates.Fate.{Fate}
use Rattle.vg_model.specs.Graph.{Graph, handoff_dequeue, error_drop}
use Rattle.vg_model.specs.Edit.{most_nodes}
use Rattle.vg_journeys.specs.Ends.{IsOutcomeIn, AreNodesOf, IsShort}
use Rattle.vg_journeys.proofs.AccountLemmas.{all_append}
use Rattle.vg_journeys.proofs.LegInLemmas.{leg_from_in, first_leg_in, short_packet, drop_within}
use Rattle.vg_model.specs.Valid.{IsValid, IsKindSet}
use Rattle.vg_model.specs.Leg.{Outcome, Sent, Dropped, Handed, Way}
use Rattle.vg_pool.specs.Contents.{Contents}
use Rattle.vg_model.specs.Count.{is_drop, is_sent_on}
use Rattle.vg_counters.specs.Notes.{nodes_of}
use Rattle.vg_journeys.specs.Ended.{Ended, ended_by, drop_visits, counted_visits}
use Rattle.vg_journeys.specs.Chains.{count_some}
use Rattle.vg_journeys.specs.LegFacts.{HandsOver}
use Rattle.vg_journeys.specs.Trips.{Run, Arrival, Drawn, Taken, number_of, legs_before, pieces_before, Trip, contents_after, onward, logged, sent_by_trip, last_visits, trip_visits, noted_of, is_of, IsHandover, IsTrip}
use Rattle.vg_journeys.specs.Treks.{IsRefusal}
use Rattle.vg_journeys.specs.Accounts.{Account, frames_with, drawn_pieces, freed_pieces, Adds}
use Rattle.vg_journeys.specs.Counts.{IsCountIn}
use Rattle.vg_journeys.specs.Turns.{Settled, settled_onward, settled_log, settled_sent, settled_pieces, refusal_visits, settled_visits, MayBeRefused, Place, legs_with, way_at, end_at, visits_at, IsSoundArrival, MayArrive, arrival_is_of, arrival_noted, settled_noted, IsTurn}
use Rattle.vg_journeys.proofs.JoinLemmas.{sum_both, same_or_not}
use Rattle.vg_journeys.proofs.NoteLemmas.{none_gives, same_given}
use Rattle.std.proofs.lemmas.Bool.{eq-eqb, ne_eqb}
use Rattle.vg_journeys.proofs.LegFactLemmas.{first_leg_is, leg_from_is}
use Rattle.vg_journeys.proofs.MatchLemmas.{matched}
use Rattle.vg_journeys.proofs.SameEnds.{same_ended, same_ended_decides}

-- the leg of an arrival keeps its number, and hands over as a leg of the run does
leg_is : (run : Run) (place : Place) (e : Arrival) (way : Way) → IsKindSet run.visit → IsValid place.graph → 0 < run.workers → IsSoundArrival e → way_at run place e ≡ Some way
    → (way.packet.number ≡ number_of e) × HandsOver place.graph run.workers place.worker (suc (length (legs_before e))) way.outcome × (length (legs_before e) ≤ 3)
leg_is run place (Drawn number bytes) way kinds valid some sound is =
    let leg = first_leg_is run.visit place.graph run.workers place.worker number bytes way kinds valid some sound is in
    (leg.number, leg.over, omega arith)
leg_is run place (Taken worker node c) way kinds valid some sound is =
    let leg = leg_from_is run.visit place.graph run.workers place.worker (suc (length c.legs)) handoff_dequeue node c.packet way kinds valid some sound.0 is in
    (leg.number, leg.over, sound.1)

handover_is : (g : Graph) (workers worker legs : ℕ) (outcome : Outcome) (refused : Option ℕ) → HandsOver g workers worker (suc legs) outcome → legs ≤ 3 → MayBeRefused outcome refused
    → IsHandover g workers worker legs outcome refused
handover_is g workers worker legs (Handed node to) refused over few may = (over.0, over.1, (let not = over.2 in omega (arith, few, not)))
handover_is g workers worker legs (Sent interface) refused over few may = may
handover_is g workers worker legs (Dropped node error) refused over few may = may

-- and stays inside the graph
way_in : (run : Run) (place : Place) (e : Arrival) (way : Way) → IsKindSet run.visit → IsValid place.graph → IsSoundArrival e → way_at run place e ≡ Some way
    → (length way.visits ≤ suc (length place.graph.nodes)) × AreNodesOf place.graph way.visits × IsOutcomeIn place.graph way.outcome × IsShort way.outcome way.packet
way_in run place (Drawn number bytes) way kinds valid sound is =
    let found = first_leg_in run.visit place.graph run.workers place.worker number bytes way kinds valid sound is in
    (found.0.few, found.0.passes, found.0.inside, found.1)
way_in run place (Taken worker node c) way kinds valid sound is =
    let found = leg_from_in run.visit place.graph run.workers place.worker (suc (length c.legs)) handoff_dequeue node c.packet way kinds valid sound.0 (dequeue_within place.graph valid) is in
    let less = found.no_larger in
    let short = sound.2 in
    (found.few, found.passes, found.inside, short_packet way.outcome way.packet (omega (arith, less, short)))
  where
    dequeue_within : (g : Graph) → IsValid g → handoff_dequeue < length g.nodes
    dequeue_within g valid = let h = drop_within g valid in omega (arith, h)

last_inside : (g : Graph) (outcome : Outcome) (refused : Option ℕ) → error_drop < length g.nodes → AreNodesOf g (last_visits outcome refused) × (length (last_visits outcome refused) ≤ 1)
last_inside g (Handed node to) None h = (tt, omega arith)
last_inside g (Handed node to) (Some accepted) h = by (node == error_drop)
  where
    by : (b : Bool) → AreNodesOf g (if b then [] else error_drop ∷ []) × (length {A = ℕ} (if b then [] else error_drop ∷ []) ≤ 1)
    by true = (tt, omega arith)
    by false = ((h, tt), omega arith)
last_inside g (Sent interface) refused h = (tt, omega arith)
last_inside g (Dropped node error) refused h = by (node == error_drop)
  where
    by : (b : Bool) → AreNodesOf g (if b then [] else error_drop ∷ []) × (length {A = ℕ} (if b then [] else error_drop ∷ []) ≤ 1)
    by true = (tt, omega arith)
    by false = ((h, tt), omega arith)

-- the trip of a packet that came and was settled
abbrev trip_at : Place → Arrival → Way → Option ℕ → Trip
trip_at place e way refused = record { arrival = e; worker = place.worker; generation = place.generation; way = way; refused = refused }

is_trip : (run : Run) (place : Place) (e : Arrival) (way : Way) (refused : Option ℕ) → IsKindSet run.visit → IsValid place.graph → length place.graph.nodes ≤ most_nodes → 0 < run.workers → slice_get run.graphs place.generation ≡ Some place.graph
    → MayArrive run place e → way_at run place e ≡ Some way → MayBeRefused way.outcome refused → IsTrip run (trip_at place e way refused)
is_trip run place e way refused kinds valid few some is_graph may is be =
    let leg = leg_is run place e way kinds valid some may.sound is in
    let inside = way_in run place e way kinds valid may.sound is in
    let last = last_inside place.graph way.outcome refused (drop_within place.graph valid) in
    record {
      inside = inside.2;
      passes = all_append (λ node. node < length place.graph.nodes) way.visits (last_visits way.outcome refused) inside.1 last.0;
      few = (let h = inside.0 in let k = last.1 in omega (arith, h, k, few, length-append way.visits (last_visits way.outcome refused)));
      short = inside.3;
      graph = place.graph;
      is_graph = is_graph;
      is_way = is;
      is_worker = may.own;
      in_time = may.in_time;
      number = leg.0;
      handover = handover_is place.graph run.workers place.worker (length (legs_before e)) way.outcome refused leg.1 leg.2 be;
    }

-- what a trip visits, but for a refusal
visits_split : (way : Way) (refused : Option ℕ) → way.visits ++ last_visits way.outcome refused ≡ counted_visits way ++ refusal_visits way.outcome refused
visits_split way refused = by way.outcome refused ∙ sym (append_assoc way.visits (drop_visits way.outcome) (refusal_visits way.outcome refused))
  where
    by : (o : Outcome) (r : Option ℕ) → way.visits ++ last_visits o r ≡ way.visits ++ (drop_visits o ++ refusal_visits o r)
    by (Handed node to) None = refl
    by (Handed node to) (Some accepted) = refl
    by (Sent interface) r = refl
    by (Dropped node error) r = ap (λ l. way.visits ++ l) (sym (append-nil (drop_visits (Dropped node error))))

-- a trip that was settled so
pub record IsTripAt (run : Run) (place : Place) (s : Settled) (e : Arrival) (t : Trip) : Type 0 where
  pub trip : IsTrip run t
  pub worker : t.worker ≡ place.worker
  pub generation : t.generation ≡ place.generation
  pub arrival : t.arrival ≡ e
  pub onward_is : onward t ≡ settled_onward s
  pub logged_is : logged t ≡ settled_log s
  pub sent_is : sent_by_trip t ≡ settled_sent s
  pub visits_are : trip_visits t ≡ visits_at run place e ++ settled_visits s
  pub contents : contents_after t ≡ s.ended.contents
  pub outcome : t.way.outcome ≡ s.ended.outcome
  pub refused : t.refused ≡ s.refused
  pub number : s.ended.contents.packet.number ≡ number_of e
  pub legs : length s.ended.contents.legs ≡ suc (length (legs_before e))

trip_of : (run : Run) (place : Place) (s : Settled) (e : Arrival) → IsKindSet run.visit → IsValid place.graph → length place.graph.nodes ≤ most_nodes → 0 < run.workers → slice_get run.graphs place.generation ≡ Some place.graph
    → MayArrive run place e → end_at run place e ≡ Some s.ended → MayBeRefused s.ended.outcome s.refused → (t : Trip) × IsTripAt run place s e t
trip_of run place s e kinds valid few some is_graph may is be =
    let way : Way = may.way in
    let end : ended_by (legs_with place e) (pieces_before e) way ≡ s.ended = same_Some _ _ (sym (ap (option_map (ended_by (legs_with place e) (pieces_before e))) may.is_way) ∙ is) in
    let settled : record { ended = ended_by (legs_with place e) (pieces_before e) way; refused = s.refused } ≡ s = ap (λ ended. record { ended = ended; refused = s.refused }) end in
    let leg = leg_is run place e way kinds valid some may.sound may.is_way in (
      trip_at place e way s.refused,
      record {
        trip = is_trip run place e way s.refused kinds valid few some is_graph may may.is_way (subst (λ (ended : Ended). MayBeRefused ended.outcome s.refused) (sym end) be);
        worker = refl;
        generation = refl;
        arrival = refl;
        onward_is = ap settled_onward settled;
        logged_is = ap settled_log settled;
        sent_is = ap settled_sent settled;
        visits_are = visits_split way s.refused ∙ ap (λ l. l ++ refusal_visits way.outcome s.refused) (ap (λ o. unwrap_or (option_map counted_visits o) []) (sym may.is_way))
            ∙ ap (λ (s : Settled). visits_at run place e ++ settled_visits s) settled;
        contents = ap (λ (ended : Ended). ended.contents) end;
        outcome = ap (λ (ended : Ended). ended.outcome) end;
        refused = refl;
        number = ap (λ (ended : Ended). ended.contents.packet.number) (sym end) ∙ leg.0;
        legs = ap (λ (ended : Ended). length ended.contents.legs) (sym end) ∙ omega (arith, length-append (legs_before e) (record { worker = place.worker; generation = place.generation } ∷ []));
      },
    )

-- the trips of packets that came and were settled, pair by pair
abbrev AreTripsAt : Run → Place → List (Settled × Arrival) → List Trip → Type 0
AreTripsAt run place [] [] = Unit {0}
AreTripsAt run place [] (t ∷ ts) = ⊥
AreTripsAt run place (p ∷ ps) [] = ⊥
AreTripsAt run place (p ∷ ps) (t ∷ ts) = IsTripAt run place p.0 p.1 t × AreTripsAt run place ps ts

trips_at : (run : Run) (place : Place) (pairs : List (Settled × Arrival)) → IsKindSet run.visit → IsValid place.graph → length place.graph.nodes ≤ most_nodes → 0 < run.workers → slice_get run.graphs place.generation ≡ Some place.graph
    → AllByRecursion (λ (p : Settled × Arrival). MayArrive run place p.1 × (end_at run place p.1 ≡ Some (p.0.ended))) pairs
    → AllByRecursion (λ (p : Settled × Arrival). MayBeRefused p.0.ended.outcome p.0.refused) pairs → (ts : List Trip) × AreTripsAt run place pairs ts
trips_at run place [] kinds valid few some is_graph each be = ([], tt)
trips_at run place (p ∷ ps) kinds valid few some is_graph each be =
    let one = trip_of run place p.0 p.1 kinds valid few some is_graph each.0.0 each.0.1 be.0 in
    let rest = trips_at run place ps kinds valid few some is_graph each.1 be.1 in
    (one.0 ∷ rest.0, (one.1, rest.1))

-- what holds of each trip; what all of them count; what they give
each_at : (run : Run) (place : Place) (P : Settled → Type 0) (Q : Trip → Type 0) → ((s : Settled) (e : Arrival) (t : Trip) → P s → IsTripAt run place s e t → Q t)
    → (pairs : List (Settled × Arrival)) (ts : List Trip) → AllByRecursion (λ (p : Settled × Arrival). P p.0) pairs → AreTripsAt run place pairs ts → AllByRecursion Q ts
each_at run place P Q each [] [] all are = tt
each_at run place P Q each [] (t ∷ ts) all are = absurd are
each_at run place P Q each (p ∷ ps) [] all are = absurd are
each_at run place P Q each (p ∷ ps) (t ∷ ts) all are = (each p.0 p.1 t all.0 are.0, each_at run place P Q each ps ts all.1 are.1)

sums_at : (run : Run) (place : Place) (f : Trip → ℕ) (h : Settled × Arrival → ℕ) → ((p : Settled × Arrival) (t : Trip) → IsTripAt run place p.0 p.1 t → f t ≡ h p)
    → (pairs : List (Settled × Arrival)) (ts : List Trip) → AreTripsAt run place pairs ts → sum_by f ts ≡ sum_by h pairs
sums_at run place f h each [] [] are = refl
sums_at run place f h each [] (t ∷ ts) are = absurd are
sums_at run place f h each (p ∷ ps) [] are = absurd are
sums_at run place f h each (p ∷ ps) (t ∷ ts) are =
    let one = each p t are.0 in
    let rest = sums_at run place f h each ps ts are.1 in
    omega (arith, one, rest, sum_by-cons f t ts, sum_by-cons h p ps)

some_at : {Y : Type 0} (run : Run) (place : Place) (f : Trip → Option Y) (h : Settled → Option Y) → ((s : Settled) (e : Arrival) (t : Trip) → IsTripAt run place s e t → f t ≡ h s)
    → (pairs : List (Settled × Arrival)) (ts : List Trip) → AreTripsAt run place pairs ts → filter_map f ts ≡ filter_map h (map (λ (p : Settled × Arrival). p.0) pairs)
some_at run place f h each [] [] are = refl
some_at run place f h each [] (t ∷ ts) are = absurd are
some_at run place f h each (p ∷ ps) [] are = absurd are
some_at run place f h each (p ∷ ps) (t ∷ ts) are =
    ap (λ o. cons_option o (filter_map f ts)) (each p.0 p.1 t are.0) ∙ ap (cons_option (h (p.0))) (some_at run place f h each ps ts are.1)

lists_at : (run : Run) (place : Place) (f : Trip → List ℕ) (h : Settled × Arrival → List ℕ) → ((p : Settled × Arrival) (t : Trip) → IsTripAt run place p.0 p.1 t → f t ≡ h p)
    → (pairs : List (Settled × Arrival)) (ts : List Trip) → AreTripsAt run place pairs ts → flat_map f ts ≡ flat_map h pairs
lists_at run place f h each [] [] are = refl
lists_at run place f h each [] (t ∷ ts) are = absurd are
lists_at run place f h each (p ∷ ps) [] are = absurd are
lists_at run place f h each (p ∷ ps) (t ∷ ts) are =
    ap (λ l. l ++ flat_map f ts) (each p t are.0) ∙ ap (λ l. h p ++ l) (lists_at run place f h each ps ts are.1)

-- what is noted of a trip
abbrev noted_pair : Run → Place → (number leg : ℕ) → Settled × Arrival → List ℕ
noted_pair run place number leg p = arrival_noted run place number leg p.1 ++ settled_noted number leg p.0

noted_at : (run : Run) (place : Place) (number leg : ℕ) (s : Settled) (e : Arrival) (t : Trip) → IsTripAt run place s e t
    → noted_of number leg t ≡ arrival_noted run place number leg e ++ settled_noted number leg s
noted_at run place number leg s e t is =
    ap (λ e. if number_of e == number && length (legs_before e) == leg then trip_visits t else []) is.arrival
    ∙ ap (λ l. if number_of e == number && length (legs_before e) == leg then l else []) is.visits_are
    ∙ split (number_of e == number) (length (legs_before e) == leg)
    ∙ ap (λ b. arrival_noted run place number leg e ++ (if number_of e == number && b then settled_visits s else [])) (sym shift)
    ∙ ap (λ n. arrival_noted run place number leg e ++ (if n == number && length s.ended.contents.legs == suc leg then settled_visits s else [])) (sym is.number)
  where
    split : (b c : Bool) → (if b && c then visits_at run place e ++ settled_visits s else [])
        ≡ (if b && c then visits_at run place e else []) ++ (if b && c then settled_visits s else [])
    split true true = refl
    split true false = refl
    split false c = refl

    shift : (length s.ended.contents.legs == suc leg) ≡ (length (legs_before e) == leg)
    shift = by (same_or_not (length (legs_before e)) leg)
      where
        by : (length (legs_before e) ≡ leg) ⊎ (length (legs_before e) ≡ leg → ⊥) → (length s.ended.contents.legs == suc leg) ≡ (length (legs_before e) == leg)
        by (inl same) = eq-eqb (length s.ended.contents.legs) (suc leg) (is.legs ∙ ap suc same) ∙ sym (eq-eqb (length (legs_before e)) leg same)
        by (inr not) = let legs = is.legs in ne_eqb (length s.ended.contents.legs) (suc leg) (λ k. not (omega (arith, k, legs))) ∙ sym (ne_eqb (length (legs_before e)) leg not)

map_seconds : (pairs : List (Settled × Arrival)) (f : Arrival → List ℕ) → flat_map f (map (λ (p : Settled × Arrival). p.1) pairs) ≡ flat_map (λ (p : Settled × Arrival). f (p.1)) pairs
map_seconds [] f = refl
map_seconds (p ∷ ps) f = ap (λ l. f (p.1) ++ l) (map_seconds ps f)

map_firsts : (pairs : List (Settled × Arrival)) (f : Settled → List ℕ) → flat_map f (map (λ (p : Settled × Arrival). p.0) pairs) ≡ flat_map (λ (p : Settled × Arrival). f (p.0)) pairs
map_firsts [] f = refl
map_firsts (p ∷ ps) f = ap (λ l. f (p.0) ++ l) (map_firsts ps f)

sum_firsts : (pairs : List (Settled × Arrival)) (f : Settled → ℕ) → sum_by f (map (λ (p : Settled × Arrival). p.0) pairs) ≡ sum_by (λ (p : Settled × Arrival). f (p.0)) pairs
sum_firsts [] f = refl
sum_firsts (p ∷ ps) f = let rest = sum_firsts ps f in omega (arith, rest, sum_by-cons f (p.0) (map (λ (p : Settled × Arrival). p.0) ps), sum_by-cons (λ (p : Settled × Arrival). f (p.0)) p ps)

sum_seconds : (pairs : List (Settled × Arrival)) (f : Arrival → ℕ) → sum_by f (map (λ (p : Settled × Arrival). p.1) pairs) ≡ sum_by (λ (p : Settled × Arrival). f (p.1)) pairs
sum_seconds [] f = refl
sum_seconds (p ∷ ps) f = let rest = sum_seconds ps f in omega (arith, rest, sum_by-cons f (p.1) (map (λ (p : Settled × Arrival). p.1) ps), sum_by-cons (λ (p : Settled × Arrival). f (p.1)) p ps)

all_firsts : (P : Settled → Type 0) (pairs : List (Settled × Arrival)) → AllByRecursion P (map (λ (p : Settled × Arrival). p.0) pairs) → AllByRecursion (λ (p : Settled × Arrival). P (p.0)) pairs
all_firsts P [] all = tt
all_firsts P (p ∷ ps) all = (all.0, all_firsts P ps all.1)

abbrev none_if : Bool → ℕ
none_if b = if b then 1 else 0

arrival_none : (run : Run) (place : Place) (number leg : ℕ) (e : Arrival) → arrival_is_of number leg e ≡ 0 → arrival_noted run place number leg e ≡ []
arrival_none run place number leg e z = by (number_of e == number && length (legs_before e) == leg) z
  where
    by : (b : Bool) → none_if b ≡ 0 → (if b then visits_at run place e else []) ≡ []
    by true z = absurd (let k : none_if true ≡ 0 = z in omega (arith, k))
    by false z = refl

count_append : {X : Type 0} (p : X → Bool) (xs ys : List X) → count_by p (xs ++ ys) ≡ count_by p xs + count_by p ys
count_append p xs ys = sum_by-append (λ x. cond (p x) 1 0) xs ys

-- what is noted for a number and a leg that at most one packet has
notes_at : (run : Run) (place : Place) (number leg : ℕ) (arrivals : List Arrival) (pairs : List (Settled × Arrival)) (ts : List Trip) → AreTripsAt run place pairs ts
    → ((count : Arrival → ℕ) → sum_by count arrivals ≡ sum_by (λ (p : Settled × Arrival). count p.1) pairs) → sum_by (arrival_is_of number leg) arrivals ≤ 1
    → flat_map (arrival_noted run place number leg) arrivals ++ flat_map (settled_noted number leg) (map (λ (p : Settled × Arrival). p.0) pairs) ≡ flat_map (noted_of number leg) ts
notes_at run place number leg arrivals pairs ts are seconds few =
    let ends : List Arrival = map (λ (p : Settled × Arrival). p.1) pairs in
    let moved : flat_map (arrival_noted run place number leg) arrivals ≡ flat_map (arrival_noted run place number leg) ends =
    same_given (arrival_noted run place number leg) (arrival_is_of number leg) (arrival_none run place number leg) arrivals ends few (λ c zeros. seconds c ∙ sym (sum_seconds pairs c)) in
    let once : sum_by (is_of number leg) ts ≤ 1 =
    (let one = seconds (arrival_is_of number leg) in
    let two = sums_at run place (is_of number leg) (λ p. arrival_is_of number leg p.1) (λ p t is. ap (arrival_is_of number leg) is.arrival) pairs ts are in
    omega (arith, one, two, few)) in
    ap (λ l. l ++ flat_map (settled_noted number leg) (map (λ (p : Settled × Arrival). p.0) pairs)) (moved ∙ map_seconds pairs (arrival_noted run place number leg))
    ∙ ap (λ l. flat_map (λ (p : Settled × Arrival). arrival_noted run place number leg p.1) pairs ++ l) (map_firsts pairs (settled_noted number leg))
    ∙ together pairs ts are once
  where
    noted_zero : (t : Trip) → is_of number leg t ≡ 0 → noted_of number leg t ≡ []
    noted_zero t z = by (number_of t.arrival == number && length (legs_before t.arrival) == leg) z
      where
        by : (b : Bool) → none_if b ≡ 0 → (if b then trip_visits t else []) ≡ []
        by true z = absurd (let k : none_if true ≡ 0 = z in omega (arith, k))
        by false z = refl

    nil_left : (xs ys : List ℕ) → xs ++ ys ≡ [] → (xs ≡ []) × (ys ≡ [])
    nil_left [] ys e = (refl, e)
    nil_left (x ∷ xs) ys e = absurd (let k = ap length e in omega (arith, k))

    none_together : (pairs : List (Settled × Arrival)) (ts : List Trip) → AreTripsAt run place pairs ts → sum_by (is_of number leg) ts ≡ 0
        → (flat_map (λ (p : Settled × Arrival). arrival_noted run place number leg p.1) pairs ≡ []) × (flat_map (λ (p : Settled × Arrival). settled_noted number leg p.0) pairs ≡ [])
    none_together [] [] are none = (refl, refl)
    none_together [] (t ∷ ts) are none = absurd are
    none_together (p ∷ ps) [] are none = absurd are
    none_together (p ∷ ps) (t ∷ ts) are none =
        let split = sum_by-cons (is_of number leg) t ts in
        let rest = none_together ps ts are.1 (omega (arith, none, split)) in
        let here = nil_left (arrival_noted run place number leg p.1) (settled_noted number leg p.0) (sym (noted_at run place number leg p.0 p.1 t are.0) ∙ noted_zero t (omega (arith, none, split))) in (
          ap (λ l. l ++ flat_map (λ (p : Settled × Arrival). arrival_noted run place number leg p.1) ps) here.0 ∙ rest.0,
          ap (λ l. l ++ flat_map (λ (p : Settled × Arrival). settled_noted number leg p.0) ps) here.1 ∙ rest.1,
        )

    together : (pairs : List (Settled × Arrival)) (ts : List Trip) → AreTripsAt run place pairs ts → sum_by (is_of number leg) ts ≤ 1
        → flat_map (λ (p : Settled × Arrival). arrival_noted run place number leg p.1) pairs ++ flat_map (λ (p : Settled × Arrival). settled_noted number leg p.0) pairs ≡ flat_map (noted_of number leg) ts
    together [] [] are few = refl
    together [] (t ∷ ts) are few = absurd are
    together (p ∷ ps) [] are few = absurd are
    together (p ∷ ps) (t ∷ ts) are few = at (is_of number leg t) refl (together ps ts are.1 (omega (arith, few, sum_by-cons (is_of number leg) t ts)))
      where
        split : sum_by (is_of number leg) (t ∷ ts) ≡ is_of number leg t + sum_by (is_of number leg) ts
        split = sum_by-cons (is_of number leg) t ts

        same : noted_of number leg t ≡ arrival_noted run place number leg p.1 ++ settled_noted number leg p.0
        same = noted_at run place number leg p.0 p.1 t are.0

        at : (n : ℕ) → is_of number leg t ≡ n
            → flat_map (λ (p : Settled × Arrival). arrival_noted run place number leg p.1) ps ++ flat_map (λ (p : Settled × Arrival). settled_noted number leg p.0) ps ≡ flat_map (noted_of number leg) ts
            → flat_map (λ (p : Settled × Arrival). arrival_noted run place number leg p.1) (p ∷ ps) ++ flat_map (λ (p : Settled × Arrival). settled_noted number leg p.0) (p ∷ ps) ≡ flat_map (noted_of number leg) (t ∷ ts)
        at zero e rest =
            let zero_here = noted_zero t e in
            let here = nil_left (arrival_noted run place number leg p.1) (settled_noted number leg p.0) (sym same ∙ zero_here) in
            rw (here.0, here.1, zero_here) rest
        at (suc n) e rest =
            let none : sum_by (is_of number leg) ts ≡ 0 = omega (arith, few, split, e) in
            let empty = none_together ps ts are.1 none in
            let later : flat_map (noted_of number leg) ts ≡ [] = (none_gives (noted_of number leg) (is_of number leg) noted_zero ts none).0 in
            rw (empty.0, empty.1, later)
            (ap (λ l. l ++ (settled_noted number leg p.0 ++ [])) (append-nil (arrival_noted run place number leg p.1))
            ∙ sym (append_assoc (arrival_noted run place number leg p.1) (settled_noted number leg p.0) []) ∙ ap (λ l. l ++ []) (sym same))

all_unit : (xs : List Settled) → AllByRecursion (λ s. Unit {0}) xs
all_unit [] = tt
all_unit (x ∷ xs) = (tt, all_unit xs)

-- a turn adds trips, each under its own generation; what holds of the outcome and the refusal of each packet that it settled holds of
-- each of them; and so does what is counted by these and by the packet as it is behind its leg
pub turn_adds_with : (P : Outcome → Option ℕ → Type 0) (run : Run) (place : Place) (arrivals : List Arrival) (old new : Account) → IsKindSet run.visit → IsValid place.graph → length place.graph.nodes ≤ most_nodes → 0 < run.workers
    → slice_get run.graphs place.generation ≡ Some place.graph → (turn : IsTurn run place arrivals old new) → AllByRecursion (λ s. P s.ended.outcome s.refused) turn.settled
    → (trips : List Trip) × Adds run old new trips × AllByRecursion (λ t. t.generation ≡ place.generation) trips × AllByRecursion (λ t. P t.way.outcome t.refused) trips
    × ((count : Contents → Outcome → Option ℕ → ℕ) → sum_by (λ t. count (contents_after t) t.way.outcome t.refused) trips ≡ sum_by (λ s. count s.ended.contents s.ended.outcome s.refused) turn.settled)
turn_adds_with P run place arrivals old new kinds valid small some is_graph turn holds =
    let found = matched (λ (s : Settled). s.ended) (end_at run place) (MayArrive run place) same_ended same_ended_decides
    (λ e may. (ended_by (legs_with place e) (pieces_before e) may.way, ap (option_map (ended_by (legs_with place e) (pieces_before e))) may.is_way)) turn.settled arrivals turn.may turn.same in
    let pairs : List (Settled × Arrival) = found.pairs in
    let firsts = found.firsts in
    let be = all_firsts (λ (s : Settled). MayBeRefused s.ended.outcome s.refused) pairs (subst (AllByRecursion (λ (s : Settled). MayBeRefused s.ended.outcome s.refused)) (sym firsts) turn.may_be) in
    let accepted : ℕ → ℕ → ℕ = λ from to. length (frames_with to new.put) in
    let refusals = all_firsts (λ (s : Settled). IsRefusal run.slots accepted place.worker s.ended.outcome s.refused) pairs
    (subst (AllByRecursion (λ (s : Settled). IsRefusal run.slots accepted place.worker s.ended.outcome s.refused)) (sym firsts) turn.refusals) in
    let made = trips_at run place pairs kinds valid small some is_graph found.each be in
    let ts : List Trip = made.0 in
    let are : AreTripsAt run place pairs ts = made.1 in
    let anything = all_firsts (λ s. Unit {0}) pairs (all_unit (map (λ (p : Settled × Arrival). p.0) pairs)) in
    let logs : filter_map logged ts ≡ filter_map settled_log turn.settled = some_at run place logged settled_log (λ s e t is. is.logged_is) pairs ts are ∙ ap (filter_map settled_log) firsts in
    let sents : filter_map sent_by_trip ts ≡ filter_map settled_sent turn.settled = some_at run place sent_by_trip settled_sent (λ s e t is. is.sent_is) pairs ts are ∙ ap (filter_map settled_sent) firsts in (
      ts,
      record {
        each = each_at run place (λ s. Unit {0}) (IsTrip run) (λ s e t u is. is.trip) pairs ts anything are;
        own = each_at run place (λ s. Unit {0}) (λ t. t.worker ≡ new.worker) (λ s e t u is. is.worker ∙ turn.worker) pairs ts anything are;
        refusals = each_at run place (λ s. IsRefusal run.slots accepted place.worker s.ended.outcome s.refused) (λ t. IsRefusal run.slots accepted t.worker t.way.outcome t.refused)
            (λ s e t r is. subst (λ w. IsRefusal run.slots accepted w t.way.outcome t.refused) (sym is.worker)
            (subst (λ o. IsRefusal run.slots accepted place.worker o t.refused) (sym is.outcome) (subst (λ n. IsRefusal run.slots accepted place.worker s.ended.outcome n) (sym is.refused) r))) pairs ts refusals are;
        same_worker = turn.same_worker;
        entered = λ count.
            let e = turn.entered count in
            let k = found.seconds count in
            let l = sums_at run place (λ t. count t.arrival) (λ p. count p.1) (λ p t is. ap count is.arrival) pairs ts are in
            omega (arith, e, k, l);
        went = λ count.
            let e = turn.went count in
            let l = sums_at run place (λ t. count_some count (onward t)) (λ p. count_some count (settled_onward p.0)) (λ p t is. ap (count_some count) is.onward_is) pairs ts are in
            let k = sum_firsts pairs (λ s. count_some count (settled_onward s)) in
            let f = ap (sum_by (λ s. count_some count (settled_onward s))) firsts in
            omega (arith, e, l, k, f);
        queues = turn.queues;
        log = turn.log ∙ ap (λ l. old.log ++ l) (sym logs);
        sent = turn.sent ∙ ap (λ l. old.sent ++ l) (sym sents);
        size = turn.size;
        visits = λ node.
            let e = turn.visits node in
            let k = found.seconds (λ e. count_by (λ n. n == node) (visits_at run place e)) in
            let f = ap (sum_by (λ s. count_by (λ n. n == node) (settled_visits s))) firsts in
            let s = sum_firsts pairs (λ s. count_by (λ n. n == node) (settled_visits s)) in
            let l = sums_at run place (λ t. count_by (λ n. n == node) (trip_visits t)) (λ p. count_by (λ n. n == node) (visits_at run place p.1) + count_by (λ n. n == node) (settled_visits p.0))
            (λ p t is. ap (count_by (λ n. n == node)) is.visits_are ∙ count_append (λ n. n == node) (visits_at run place p.1) (settled_visits p.0)) pairs ts are in
            let b = sum_both (λ (p : Settled × Arrival). count_by (λ n. n == node) (visits_at run place p.1)) (λ (p : Settled × Arrival). count_by (λ n. n == node) (settled_visits p.0)) pairs in
            omega (arith, e, k, f, s, l, b);
        drops = λ node error. let e = turn.drops node error in let k = ap (count_by (λ (f : Fate). is_drop node error f.end)) logs in omega (arith, e, k);
        sends = λ interface. let e = turn.sends interface in let k = ap (count_by (λ (f : Fate). is_sent_on interface f.end)) logs in omega (arith, e, k);
        traced = turn.traced;
        notes = λ number leg h few first.
            let once : sum_by (arrival_is_of number leg) arrivals ≤ 1 =
            (let k = found.seconds (arrival_is_of number leg) in
            let l = sums_at run place (is_of number leg) (λ p. arrival_is_of number leg p.1) (λ p t is. ap (arrival_is_of number leg) is.arrival) pairs ts are in
            omega (arith, k, l, few)) in
            turn.notes number leg h once (λ some. first (let k = found.seconds (arrival_is_of number leg) in
            let l = sums_at run place (is_of number leg) (λ p. arrival_is_of number leg p.1) (λ p t is. ap (arrival_is_of number leg) is.arrival) pairs ts are in
            omega (arith, k, l, some)))
            ∙ ap (λ l. nodes_of number leg old.trace ++ (flat_map (arrival_noted run place number leg) arrivals ++ flat_map (settled_noted number leg) l)) (sym firsts)
            ∙ ap (λ l. nodes_of number leg old.trace ++ l) (notes_at run place number leg arrivals pairs ts are found.seconds once);
        allocated =
            (let e = turn.allocated in
            let k = found.seconds drawn_pieces in
            let l = sums_at run place (λ t. drawn_pieces t.arrival) (λ p. drawn_pieces p.1) (λ p t is. ap drawn_pieces is.arrival) pairs ts are in
            omega (arith, e, k, l));
        freed =
            (let e = turn.freed in
            let l = sums_at run place freed_pieces (λ p. settled_pieces p.0)
            (λ p t is. ap (λ (c : Contents). count_some (λ (f : Fate). c.pieces) (logged t)) is.contents ∙ ap (count_some (λ (f : Fate). p.0.ended.contents.pieces)) is.logged_is) pairs ts are in
            let k = sum_firsts pairs settled_pieces in
            let f = ap (sum_by settled_pieces) firsts in
            omega (arith, e, l, k, f));
      },
      each_at run place (λ s. Unit {0}) (λ t. t.generation ≡ place.generation) (λ s e t u is. is.generation) pairs ts anything are,
      each_at run place (λ s. P s.ended.outcome s.refused) (λ t. P t.way.outcome t.refused)
          (λ s e t p is. subst (λ o. P o t.refused) (sym is.outcome) (subst (λ r. P s.ended.outcome r) (sym is.refused) p)) pairs ts
          (all_firsts (λ s. P s.ended.outcome s.refused) pairs (subst (AllByRecursion (λ s. P s.ended.outcome s.refused)) (sym firsts) holds)) are,
      λ count.
          let l = sums_at run place (λ t. count (contents_after t) t.way.outcome t.refused) (λ p. count p.0.ended.contents p.0.ended.outcome p.0.refused)
          (λ p t is. ap (λ c. count c t.way.outcome t.refused) is.contents ∙ ap (λ o. count p.0.ended.contents o t.refused) is.outcome ∙ ap (count p.0.ended.contents p.0.ended.outcome) is.refused) pairs ts are in
          let k = sum_firsts pairs (λ s. count s.ended.contents s.ended.outcome s.refused) in
          let f = ap (sum_by (λ s. count s.ended.contents s.ended.outcome s.refused)) firsts in
          omega (arith, l, k, f),
    )

-- under its own generation
pub turn_adds_under : (run : Run) (place : Place) (arrivals : List Arrival) (old new : Account) → IsKindSet run.visit → IsValid place.graph → length place.graph.nodes ≤ most_nodes → 0 < run.workers
    → slice_get run.graphs place.generation ≡ Some place.graph → IsTurn run place arrivals old new
    → (trips : List Trip) × Adds run old new trips × AllByRecursion (λ t. t.generation ≡ place.generation) trips
turn_adds_under run place arrivals old new kinds valid small some is_graph turn =
    let found = turn_adds_with (λ outcome refused. Unit {0}) run place arrivals old new kinds valid small some is_graph turn (all_unit turn.settled) in
    (found.0, found.1, found.2)

pub turn_adds : (run : Run) (place : Place) (arrivals : List Arrival) (old new : Account) → IsKindSet run.visit → IsValid place.graph → length place.graph.nodes ≤ most_nodes → 0 < run.workers
    → slice_get run.graphs place.generation ≡ Some place.graph → IsTurn run place arrivals old new → (trips : List Trip) × Adds run old new trips
turn_adds run place arrivals old new kinds valid small some is_graph turn =
    let found = turn_adds_under run place arrivals old new kinds valid small some is_graph turn in
    (found.0, found.1)

-- with counts of the queues to their workers
pub turn_adds_counted : (run : Run) (place : Place) (arrivals : List Arrival) (old new : Account) (lossless : Bool) → IsKindSet run.visit → IsValid place.graph → length place.graph.nodes ≤ most_nodes → 0 < run.workers
    → slice_get run.graphs place.generation ≡ Some place.graph → (turn : IsTurn run place arrivals old new)
    → AllByRecursion (λ s. IsCountIn run.slots lossless old.put new.put s.ended.outcome s.refused) turn.settled
    → (trips : List Trip) × Adds run old new trips × AllByRecursion (λ t. t.generation ≡ place.generation) trips
    × AllByRecursion (λ t. IsCountIn run.slots lossless old.put new.put t.way.outcome t.refused) trips
turn_adds_counted run place arrivals old new lossless kinds valid small some is_graph turn counts =
    let found = turn_adds_with (IsCountIn run.slots lossless old.put new.put) run place arrivals old new kinds valid small some is_graph turn counts in
    (found.0, found.1, found.2, found.3)
