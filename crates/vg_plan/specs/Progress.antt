-- How far a script's generations are made.
use Rattle.std.specs.Prelude.{◌≡◌, List, [], ◌∷◌, Ok}
use Rattle.std.specs.List.{AllByRecursion}
use Rattle.vg_model.specs.declared.edits.EditLine.{EditLine}
use Rattle.vg_model.specs.Graph.{Graph}
use Rattle.vg_model.specs.Generations.{Graphs, in_front, after_groups}
use Rattle.vg_plan.specs.Plan.{IsGeneration}

-- these graphs in front of those
abbrev pub behind : List Graph → Graphs → Graphs
behind [] graphs = graphs
behind (g ∷ gs) graphs = in_front g (behind gs graphs)

-- of all graphs the last one made is this, and these groups of edits are left
pub record AreMadeUpTo (all : Graphs) (g : Graph) (groups : List (List EditLine)) : Type 0 where
  -- those before it
  pub front : List Graph
  pub generations : AllByRecursion IsGeneration front
  pub last : IsGeneration g
  pub is : all ≡ behind front (after_groups (Ok g) groups)

-- all graphs are made
pub record AreMade (all : Graphs) : Type 0 where
  pub graphs : List Graph
  pub generations : AllByRecursion IsGeneration graphs
  pub is : all ≡ Ok graphs
