-- The generations of a graph: what it was at the start, and what it became by each group of edits (this project's profile).
use Rattle.std.specs.Prelude.{ℕ, List, [], ◌∷◌, Result, Ok, Err}
use Rattle.vg_model.specs.declared.edits.EditLine.{EditLine}
use Rattle.vg_model.specs.Graph.{Graph}
use Rattle.vg_model.specs.Start.{start_graph}
use Rattle.vg_model.specs.Edit.{Cause, apply_all}

-- the graphs, or the line and the cause of the first edit that is refused
abbrev pub Graphs : Type 0
Graphs = Result (List Graph) (ℕ × Cause)

-- this graph in front of those
abbrev pub in_front : Graph → Graphs → Graphs
in_front g (Ok graphs) = Ok (g ∷ graphs)
in_front g (Err refusal) = Err refusal

-- this graph, and those after each group of edits in turn
abbrev pub after_groups : Result Graph (ℕ × Cause) → List (List EditLine) → Graphs
after_groups (Err refusal) groups = Err refusal
after_groups (Ok g) [] = Ok (g ∷ [])
after_groups (Ok g) (edits ∷ groups) = in_front g (after_groups (apply_all g edits) groups)

-- generation 0 is the start graph with the first edits; each later one is the one before it with the edits of a group: a
-- script's events, in their order, are the groups
abbrev pub generations : List EditLine → List (List EditLine) → Graphs
generations start groups = after_groups (apply_all start_graph start) groups
