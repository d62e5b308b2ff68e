-- All workers of a run and the queues between them.
use Rattle.std.specs.Prelude.{◌≡◌, ℕ, ◌+◌, ◌<◌, ◌≤◌, List, [], ◌∷◌, ◌++◌, length}
use Rattle.std.specs.List.{sum_by, AllByRecursion}
use Rattle.vg_model.specs.Edit.{most_nodes, most_interfaces}
use Rattle.vg_counters.specs.Tally.{nothing_counted}
use Rattle.vg_counters.specs.Notes.{nothing_noted}
use Rattle.vg_journeys.specs.Chains.{count_some}
use Rattle.vg_journeys.specs.Trips.{Run, Arrival, Trip, onward}
use Rattle.vg_journeys.specs.Accounts.{HandoffFrame, Account, Adds, frames_with, arrivals_in, draws_from, below}

-- a worker before its first turn, where so many packets are traced
abbrev pub begun : (traced worker : ℕ) → Account
begun traced worker = record {
  worker = worker;
  mark = worker;
  taken = [];
  put = [];
  log = [];
  sent = [];
  counts = nothing_counted most_nodes most_interfaces;
  trace = nothing_noted traced;
  allocated = 0;
  freed = 0;
}

-- a worker stands for the run: all that it has done since its beginning are trips of the run
pub record StandsFor (run : Run) (traced worker : ℕ) (a : Account) : Type 0 where
  pub within : worker < run.workers
  pub trips : List Trip
  pub adds : Adds run (begun traced worker) a trips

-- the trips of these workers
abbrev pub trips_of : (run : Run) (traced : ℕ) (at : ℕ → Account) (ws : List ℕ) → AllByRecursion (λ w. StandsFor run traced w (at w)) ws → List Trip
trips_of run traced at [] all = []
trips_of run traced at (w ∷ ws) all = all.0.trips ++ trips_of run traced at ws all.1

-- a moment of a run: each worker stands for it; what a queue has accepted is what was taken from it, and then the rest; and no frame is
-- empty
pub record IsMoment (run : Run) (traced : ℕ) (at : ℕ → Account) (rest : ℕ → ℕ → List HandoffFrame) : Type 0 where
  pub stand : AllByRecursion (λ w. StandsFor run traced w (at w)) (below run.workers)
  pub queues : (from to : ℕ) → from < run.workers → to < run.workers → frames_with to (at from).put ≡ frames_with from (at to).taken ++ rest from to
  pub full : (from to : ℕ) → from < run.workers → to < run.workers → AllByRecursion (λ frame. 1 ≤ length frame.packets) (frames_with to (at from).put)

-- what was drawn by all workers, and what is on its way between them, by any way of counting
abbrev pub drawn_by_all : Run → (ℕ → Account) → (Arrival → ℕ) → ℕ
drawn_by_all run at count = sum_by (λ w. sum_by count (draws_from 0 run.workers w (at w).mark run.packets)) (below run.workers)

abbrev pub on_the_way : Run → (ℕ → ℕ → List HandoffFrame) → (Arrival → ℕ) → ℕ
on_the_way run rest count = sum_by (λ from. sum_by (λ to. sum_by count (arrivals_in to (rest from to))) (below run.workers)) (below run.workers)

-- nothing is lost and nothing is added: what began trips, and what is on its way, was drawn, or went on from trips
abbrev pub IsConserved : (run : Run) → (ℕ → Account) → (ℕ → ℕ → List HandoffFrame) → List Trip → Type 0
IsConserved run at rest trips = (count : Arrival → ℕ) → sum_by (λ (t : Trip). count t.arrival) trips + on_the_way run rest count
    ≡ drawn_by_all run at count + sum_by (λ t. count_some count (onward t)) trips

-- the end of a run: all packets are drawn, and nothing is on its way
pub record IsOver (run : Run) (at : ℕ → Account) (rest : ℕ → ℕ → List HandoffFrame) : Type 0 where
  pub drawn : (w : ℕ) → w < run.workers → length run.packets ≤ (at w).mark
  pub empty : (from to : ℕ) → from < run.workers → to < run.workers → rest from to ≡ []
