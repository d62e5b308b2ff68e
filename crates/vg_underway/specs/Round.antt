-- A worker's turn of a run.
use Rattle.std.specs.Prelude.{ℕ, List}
use Rattle.vg_model.specs.Graph.{Graph}
use Rattle.vg_journeys.specs.Trips.{Run}
use Rattle.vg_journeys.specs.Turns.{Place}
use Rattle.vg_underway.specs.Underway.{Setting}

-- where a worker with this setting has a turn, and a run of which it is
abbrev pub place_in : Setting → Place
place_in s = record { graph = s.graph; generation = s.generation; worker = s.worker }

abbrev pub run_in : Setting → (graphs : List Graph) (slots : ℕ) (first : ℕ → ℕ) (packets : List (List ℕ)) → Run
run_in s graphs slots first packets = record { visit = s.visit; graphs = graphs; workers = s.workers; slots = slots; first = first; packets = packets }
