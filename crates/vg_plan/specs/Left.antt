-- What contracts see of generations that are made one after the other.
use Rattle.std.specs.Prelude.{◌≡◌, ℕ, List, [], map, drop, Ok, Err}
use Rattle.vg_model.specs.declared.edits.EditLine.{EditLine}
use Rattle.vg_model.specs.Generations.{Graphs, after_groups}
use Rattle.vg_model.specs.Graph.{Graph}
use Rattle.vg_plan.specs.declared.events.Run.{Run}

-- the edits of the runs behind so many
abbrev pub edits_left : (made : ℕ) → List Run → List (List EditLine)
edits_left made runs = map (λ (run : Run). run.edits.now) (drop made runs)

-- this graph, and those that these runs make of it
abbrev pub graphs_left : Graph → (made : ℕ) → List Run → List Graph
graphs_left g made runs = elim (after_groups (Ok g) (edits_left made runs)) as (λ (made : Graphs). List Graph) [ Ok graphs ↦ graphs | Err refusal ↦ [] ]

-- their edits can all be made
pub record IsLeft (g : Graph) (made : ℕ) (runs : List Run) : Type 0 where
  pub graphs : List Graph
  pub are : after_groups (Ok g) (edits_left made runs) ≡ Ok graphs
