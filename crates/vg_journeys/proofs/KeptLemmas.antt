-- For `laws::kept_in_the_end` and `laws::runs_have_outcomes`: what all workers have kept in the end.
use Rattle.std.proofs.Common.{◌≡◌, ℕ, zero, suc, ◌+◌, ◌*◌, ◌<◌, ◌≤◌, cond, List, [], ◌∷◌, ◌++◌, length, map, get_or, refl, sym, ap, ◌∙◌, arith}
use Rattle.std.specs.Prelude.{Option, Some, None, ◌==◌, replicate, slice_index}
use Rattle.std.specs.List.{sum_by, count_by, AllByRecursion, flat_map}
use Rattle.std.proofs.lemmas.List.Sums.{sum_by-cons, sum_by-append}
use Rattle.std.proofs.lemmas.Grind.{flat_map-append}
use Rattle.vg_model.specs.declared.fates.Fate.{Fate}
use Rattle.vg_model.specs.Edit.{most_nodes, most_interfaces}
use Rattle.vg_model.specs.Errors.{error_number}
use Rattle.vg_model.specs.Leg.{Outcome, Sent, Dropped, Handed}
use Rattle.vg_model.specs.PoolBook.{pieces_of}
use Rattle.vg_model.specs.Journey as model
use Rattle.vg_model.specs.Journey.{Journey, end_of}
use Rattle.vg_model.specs.Count.{trace, is_drop, is_sent_on}
use Rattle.vg_pool.specs.Contents.{Contents}
use Rattle.vg_pool.proofs.BlockLemmas.{pieces_bound}
use Rattle.vg_counters.specs.Tally.{drops_at, count_of_errors}
use Rattle.vg_counters.specs.Notes.{nothing_noted, count_of_legs, nodes_of, all_legs}
use Rattle.vg_journeys.specs.Chains.{count_some}
use Rattle.vg_journeys.specs.Trips.{Run, Drawn, pieces_before, Trip, is_of, contents_after, onward_by, onward, logged, sent_by_trip, trip_visits, noted_of}
use Rattle.vg_journeys.specs.Treks.{drawn_from, choice_of}
use Rattle.vg_journeys.specs.Accounts.{HandoffFrame, Account, drawn_pieces, freed_pieces, below}
use Rattle.vg_journeys.specs.Moments.{StandsFor, trips_of, IsMoment, IsOver}
use Rattle.vg_journeys.specs.Kept.{all_pieces, AreKept}
use Rattle.vg_journeys.proofs.RunLemmas.{sum_filter_map, sum_flat_map}
use Rattle.vg_journeys.proofs.FlowLemmas.{sum_same}
use Rattle.vg_journeys.proofs.JoinLemmas.{sum_made, sum_none, sum_both}
use Rattle.vg_journeys.proofs.EndLemmas.{all_trips}
use Rattle.vg_journeys.proofs.HandLemmas.{over_queue}
use Rattle.vg_journeys.proofs.JourneyLemmas.{journeys_of_trips}
use Rattle.vg_journeys.proofs.WorkerLemmas.{log_or_onward, allocated_on, freed_on}

-- nothing is counted or noted at first
zeros : (n i : ℕ) → slice_index (replicate n 0) i ≡ 0
zeros zero i = refl
zeros (suc n) zero = refl
zeros (suc n) (suc i) = zeros n i

no_row : (n i : ℕ) (row : List ℕ) (j : ℕ) → slice_index row j ≡ 0 → slice_index (get_or (replicate n row) i []) j ≡ 0
no_row zero i row j none = refl
no_row (suc n) zero row j none = none
no_row (suc n) (suc i) row j none = no_row n i row j none

no_nodes : (legs leg : ℕ) → get_or {A = List ℕ} (replicate legs []) leg [] ≡ []
no_nodes zero leg = refl
no_nodes (suc legs) zero = refl
no_nodes (suc legs) (suc leg) = no_nodes legs leg

nothing_of : (n number leg : ℕ) → nodes_of number leg (nothing_noted n) ≡ []
nothing_of zero number leg = refl
nothing_of (suc n) zero leg = no_nodes count_of_legs leg
nothing_of (suc n) (suc number) leg = nothing_of n number leg

pub noted_length : (n : ℕ) → length (nothing_noted n) ≡ n
noted_length zero = refl
noted_length (suc n) = ap suc (noted_length n)

sum_map : {X Y : Type 0} (f : Y → ℕ) (h : X → Y) (xs : List X) → sum_by f (map h xs) ≡ sum_by (λ x. f (h x)) xs
sum_map f h [] = refl
sum_map f h (x ∷ xs) = let rest = sum_map f h xs in omega (arith, rest, sum_by-cons f (h x) (map h xs), sum_by-cons (λ x. f (h x)) x xs)

flat_map_map : {X Y : Type 0} (f : Y → List ℕ) (h : X → Y) (xs : List X) → flat_map f (map h xs) ≡ flat_map (λ x. f (h x)) xs
flat_map_map f h [] = refl
flat_map_map f h (x ∷ xs) = ap (λ l. f (h x) ++ l) (flat_map_map f h xs)

flat_same : {X : Type 0} (f h : X → List ℕ) → ((x : X) → f x ≡ h x) → (xs : List X) → flat_map f xs ≡ flat_map h xs
flat_same f h each [] = refl
flat_same f h each (x ∷ xs) = ap (λ l. l ++ flat_map f xs) (each x) ∙ ap (λ l. h x ++ l) (flat_same f h each xs)

-- what workers noted for a number and a leg, one worker behind the other
notes_made : (run : Run) (traced : ℕ) (at : ℕ → Account) (number leg : ℕ) → number < traced → (ws : List ℕ) (all : AllByRecursion (λ w. StandsFor run traced w (at w)) ws)
    → sum_by (is_of number leg) (trips_of run traced at ws all) ≤ 1
    → flat_map (λ w. nodes_of number leg (at w).trace) ws ≡ flat_map (noted_of number leg) (trips_of run traced at ws all)
notes_made run traced at number leg h [] all few = refl
notes_made run traced at number leg h (w ∷ ws) all few =
    let both = sum_by-append (is_of number leg) all.0.trips (trips_of run traced at ws all.1) in
    let here : nodes_of number leg (at w).trace ≡ flat_map (noted_of number leg) all.0.trips =
    all.0.adds.notes number leg (omega (arith, h, noted_length traced)) (omega (arith, few, both)) (λ some. nothing_of traced number leg)
    ∙ ap (λ l. l ++ flat_map (noted_of number leg) all.0.trips) (nothing_of traced number leg) in
    ap (λ l. l ++ flat_map (λ w. nodes_of number leg (at w).trace) ws) here
    ∙ ap (λ l. flat_map (noted_of number leg) all.0.trips ++ l) (notes_made run traced at number leg h ws all.1 (omega (arith, few, both)))
    ∙ sym (flat_map-append (noted_of number leg) all.0.trips (trips_of run traced at ws all.1))

-- no packet that goes on was drawn
pub not_drawn : (c : Contents) (outcome : Outcome) (refused : Option ℕ) → count_some drawn_pieces (onward_by c outcome refused) ≡ 0
not_drawn c (Handed node to) None = refl
not_drawn c (Handed node to) (Some accepted) = refl
not_drawn c (Sent interface) refused = refl
not_drawn c (Dropped node error) refused = refl

-- the packets of the capture take all buffers that were drawn, by either way of counting
drawn_total : (number : ℕ) (packets : List (List ℕ)) → sum_by drawn_pieces (drawn_from number packets) ≡ all_pieces packets
drawn_total number [] = refl
drawn_total number (bytes ∷ packets) =
    let rest = drawn_total (number + 1) packets in
    omega (arith, rest, sum_by-cons drawn_pieces (Drawn number bytes) (drawn_from (number + 1) packets), sum_by-cons (λ (bytes : List ℕ). pieces_of (length bytes)) bytes packets)

came_total : (number : ℕ) (packets : List (List ℕ)) → sum_by pieces_before (drawn_from number packets) ≡ all_pieces packets
came_total number [] = refl
came_total number (bytes ∷ packets) =
    let rest = came_total (number + 1) packets in
    omega (arith, rest, sum_by-cons pieces_before (Drawn number bytes) (drawn_from (number + 1) packets), sum_by-cons (λ (bytes : List ℕ). pieces_of (length bytes)) bytes packets)

-- they are no more than five for each packet
pub pieces_most : (packets : List (List ℕ)) → all_pieces packets ≤ 5 * length packets
pieces_most [] = omega arith
pieces_most (bytes ∷ packets) =
    let rest = pieces_most packets in
    let one = pieces_bound (length bytes) in
    omega (arith, rest, one, sum_by-cons (λ (bytes : List ℕ). pieces_of (length bytes)) bytes packets)

-- the theorem
pub kept_in_the_end : (run : Run) (traced : ℕ) (at : ℕ → Account) (rest : ℕ → ℕ → List HandoffFrame) → IsMoment run traced at rest → 0 < run.workers → IsOver run at rest → AreKept run traced at
kept_in_the_end run traced at rest moment some over =
    let ws : List ℕ = below run.workers in
    let trips : List Trip = trips_of run traced at ws moment.stand in
    let all = all_trips run traced at rest moment some over in
    let found = journeys_of_trips run trips all in
    let js : List Journey = found.js in
    let logs : (count : Fate → ℕ) → sum_by (λ w. sum_by count (at w).log) ws ≡ sum_by count (model.fates js) = λ count.
    sym (sum_made run traced at (λ t. count_some count (logged t)) (λ w. sum_by count (at w).log)
    (λ w stand. sym (ap (sum_by count) stand.adds.log ∙ sum_filter_map count logged stand.trips)) ws moment.stand)
    ∙ found.fates_are count in
    record {
      choices = map choice_of found.treks;
      js = js;
      lawful = found.lawful;
      inside = found.inside;
      logs = logs;
      sents = λ count.
          sym (sum_made run traced at (λ t. count_some count (sent_by_trip t)) (λ w. sum_by count (at w).sent)
          (λ w stand. sym (ap (sum_by count) stand.adds.sent ∙ sum_filter_map count sent_by_trip stand.trips)) ws moment.stand)
          ∙ found.sent_are count;
      visits = λ node.
          sym (sum_made run traced at (λ t. count_by (λ n. n == node) (trip_visits t)) (λ w. slice_index (at w).counts.visits node)
          (λ w stand. let e = stand.adds.visits node in omega (arith, e, zeros most_nodes node)) ws moment.stand)
          ∙ found.visits_are (λ n. cond (n == node) 1 0)
          ∙ sym (sum_flat_map (λ n. cond (n == node) 1 0) trace js);
      drops = λ node error.
          let one : Fate → ℕ = λ f. cond (is_drop node error f.end) 1 0 in
          sym (sum_made run traced at (λ t. count_some one (logged t)) (λ w. drops_at node (error_number error) (at w).counts.drops)
          (λ w stand.
          let e = stand.adds.drops node error in
          let z = no_row most_nodes node (replicate count_of_errors 0) (error_number error) (zeros count_of_errors (error_number error)) in
          omega (arith, e, z, sum_filter_map one logged stand.trips)) ws moment.stand)
          ∙ found.fates_are one ∙ sum_map one model.fate_of js;
      sends = λ interface.
          let one : Fate → ℕ = λ f. cond (is_sent_on interface f.end) 1 0 in
          sym (sum_made run traced at (λ t. count_some one (logged t)) (λ w. slice_index (at w).counts.sends interface)
          (λ w stand. let e = stand.adds.sends interface in omega (arith, e, zeros most_interfaces interface, sum_filter_map one logged stand.trips)) ws moment.stand)
          ∙ found.fates_are one ∙ sum_map one model.fate_of js;
      traces = λ few number h.
          flat_same (λ leg. flat_map (nodes_of number leg) (map (λ w. (at w).trace) ws)) (λ leg. flat_map (noted_of number leg) trips)
          (λ leg. flat_map_map (nodes_of number leg) (λ w. (at w).trace) ws
          ∙ notes_made run traced at number leg h ws moment.stand (found.once number leg (omega (arith, h, few)))) all_legs
          ∙ found.traces number (omega (arith, h, few));
      hands = λ from to hf ht count. over_queue run traced at rest moment from to hf ht count ∙ found.hands_by count from to;
      as_many = found.as_many;
      allocated =
          (let made = sum_made run traced at (λ t. drawn_pieces t.arrival) (λ w. (at w).allocated) (λ w stand. let e = stand.adds.allocated in omega (arith, e)) ws moment.stand in
          let flow = all.flow drawn_pieces in
          let none : sum_by (λ t. count_some drawn_pieces (onward t)) trips ≡ 0 = sum_none (λ t. count_some drawn_pieces (onward t)) (λ t. not_drawn (contents_after t) t.way.outcome t.refused) trips in
          omega (arith, made, flow, none, drawn_total 0 run.packets));
      freed =
          (let made = sum_made run traced at freed_pieces (λ w. (at w).freed) (λ w stand. let e = stand.adds.freed in omega (arith, e)) ws moment.stand in
          let flow = all.flow pieces_before in
          let split = sum_both freed_pieces (λ t. count_some pieces_before (onward t)) trips in
          let each : sum_by (λ (t : Trip). pieces_before t.arrival) trips ≡ sum_by (λ t. freed_pieces t + count_some pieces_before (onward t)) trips =
          sum_same (λ (t : Trip). pieces_before t.arrival) (λ t. freed_pieces t + count_some pieces_before (onward t)) (λ t. sym (log_or_onward (contents_after t) t.way.outcome t.refused)) trips in
          omega (arith, made, flow, split, each, came_total 0 run.packets));
      allocated_by = λ w h. allocated_on moment over w h;
      freed_by = λ w h. freed_on moment js found.freed_are w h;
    }
