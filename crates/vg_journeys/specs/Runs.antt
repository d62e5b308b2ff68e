-- What all trips of a run come to.
use Rattle.std.specs.Prelude.{◌≡◌, ℕ, ◌+◌, ◌*◌, ◌<◌, ◌≤◌, List, [], ◌∷◌, length, map, slice_index_or, slice_get, Some, flat_map}
use Rattle.std.specs.List.{sum_by, AllByRecursion}
use Rattle.vg_model.specs.declared.fates.Fate.{Fate}
use Rattle.vg_model.specs.Journey.{Journey, fates, fate_of, sent, end_of}
use Rattle.vg_model.specs.Count.{trace}
use Rattle.vg_model.specs.Lawful.{AreLawfulChoices, hands, hands_in}
use Rattle.vg_model.specs.Edit.{most_nodes}
use Rattle.vg_model.specs.Graph.{Graph}
use Rattle.vg_model.specs.Growth.{Grows}
use Rattle.vg_model.specs.PoolBook.{IsChainOf, pieces_of}
use Rattle.vg_journeys.specs.Ends.{IsEndIn, AreNodesOf, IsShort}
use Rattle.vg_counters.specs.Notes.{all_legs}
use Rattle.vg_journeys.specs.Chains.{count_some, IsFlow}
use Rattle.vg_journeys.specs.Trips.{Run, Trip, contents_after, onward, logged, sent_by_trip, trip_visits, noted_of, is_of, IsTrip}
use Rattle.vg_journeys.specs.Treks.{drawn_from, choice_of, hand_of, hand_by, IsRefusal}

-- the trips of all workers, where nothing is on its way any more: each is lawful; a refused packet names a count of at least the
-- slots, and at most what went over that queue in all; and each trip begins with a packet of the capture, or where another went on
pub record AreAllTrips (run : Run) (trips : List Trip) : Type 0 where
  pub each : AllByRecursion (IsTrip run) trips
  pub refusals : AllByRecursion (λ t. IsRefusal run.slots (λ from to. sum_by (hand_of from to) trips) t.worker t.way.outcome t.refused) trips
  pub flow : IsFlow (λ (t : Trip). t.arrival) onward (drawn_from 0 run.packets) trips

-- a graph that all generations grow into
abbrev pub AllGrow : Run → Graph → Type 0
AllGrow run last = (generation : ℕ) (g : Graph) → slice_get run.graphs generation ≡ Some g → Grows g last

-- journeys end in the last graph, visit nodes of it, and not many; and a packet that they send and its room are no more together than those
-- of the longest packet that is drawn
pub record AreInside (run : Run) (js : List Journey) : Type 0 where
  pub ends : (last : Graph) → AllGrow run last → AllByRecursion (λ j. IsEndIn last (end_of j.course.outcome)) js
  pub nodes : (last : Graph) → AllGrow run last → AllByRecursion (λ j. AreNodesOf last (trace j)) js
  pub few : AllByRecursion (λ j. length (trace j) ≤ 4 * (most_nodes + 2)) js
  pub short : AllByRecursion (λ j. IsShort j.course.outcome j.course.packet) js

-- how many buffers the chain of a packet of the capture has
abbrev pub chain_of : List (List ℕ) → (number : ℕ) → ℕ
chain_of packets number = pieces_of (length (slice_index_or packets number []))

-- the chain of each packet stays, on all its trips, what it was when the packet was drawn
abbrev pub KeepChains : List (List ℕ) → List (List Trip) → Type 0
KeepChains [] [] = Unit {0}
KeepChains [] (trek ∷ treks) = ⊥
KeepChains (bytes ∷ packets) [] = ⊥
KeepChains (bytes ∷ packets) (trek ∷ treks) = AllByRecursion (λ t. IsChainOf (length bytes) (contents_after t).pieces) trek × KeepChains packets treks

-- the journeys that they make
pub record AreJourneys (run : Run) (trips : List Trip) : Type 0 where
  pub treks : List (List Trip)
  pub js : List Journey
  pub lawful : AreLawfulChoices run.visit run.graphs run.workers run.slots run.first run.packets (map choice_of treks) js
  pub inside : AreInside run js
  -- for every way of counting: the fates that were logged, the packets that were sent, the visits
  pub fates_are : (count : Fate → ℕ) → sum_by (λ t. count_some count (logged t)) trips ≡ sum_by count (fates js)
  pub sent_are : (count : ℕ × List ℕ → ℕ) → sum_by (λ t. count_some count (sent_by_trip t)) trips ≡ sum_by count (sent js)
  pub visits_are : (count : ℕ → ℕ) → sum_by (λ t. sum_by count (trip_visits t)) trips ≡ sum_by (λ j. sum_by count (trace j)) js
  -- the buffers of the packets that were logged are those of their chains, by any way of counting
  pub chains : KeepChains run.packets treks
  pub freed_are : (count : Fate → ℕ → ℕ) → sum_by (λ t. count_some (λ f. count f (contents_after t).pieces) (logged t)) trips
      ≡ sum_by (λ j. count (fate_of j) (chain_of run.packets j.number)) js
  pub hands_are : (from to : ℕ) → sum_by (hand_of from to) trips ≡ hands from to js
  pub hands_by : (count : ℕ → ℕ) (from to : ℕ) → sum_by (hand_by count from to) trips ≡ sum_by (λ j. count j.number * hands_in from to j.course.legs) js
  -- no packet has two trips of one leg; the nodes noted for it, leg by leg, are the trace of its journey
  pub as_many : length js ≡ length run.packets
  pub once : (number leg : ℕ) → number < length run.packets → sum_by (is_of number leg) trips ≤ 1
  pub traces : (number : ℕ) → number < length run.packets
      → flat_map (λ leg. flat_map (noted_of number leg) trips) all_legs ≡ slice_index_or (map trace js) number []
