-- From one generation to the next.
use Rattle.std.specs.Prelude.{◌≡◌, ℕ, ◌-◌, List, ◌∷◌, length, drop, slice_get, Some, Ok}
use Rattle.vg_model.specs.Edit.{apply_all}
use Rattle.vg_model.specs.Graph.{Graph, with_routes}
use Rattle.vg_script.specs.Events.{Event, events}
use Rattle.vg_plan.specs.Plan.{Planned}

-- the edits of the first event that was left are made
pub record MakesNext (left : List Event) (before : Graph) (rest : List Event) (after : Graph) : Type 0 where
  pub event : Event
  pub first : left ≡ event ∷ rest
  pub made : apply_all before event.edits ≡ Ok after

-- an event is left, and the edits of the first one can be made
abbrev pub CanMakeNext : List Event → Graph → Type 0
CanMakeNext left before = (rest : List Event) × (after : Graph) × MakesNext left before rest after

-- the graph is that of this generation, and the events behind it are left
pub record IsAt (plan : Planned) (generation : ℕ) (events_left : List Event) (g : Graph) : Type 0 where
  pub left : events_left ≡ drop generation (events plan.script)
  pub graph : slice_get plan.graphs generation ≡ Some g

-- the graph is that of the last generation, without its routes
pub record IsLastGraph (graphs : List Graph) (g : Graph) : Type 0 where
  pub whole : Graph
  pub is : slice_get graphs (length graphs - 1) ≡ Some whole
  pub parts : with_routes g whole.routes whole.routes6 ≡ whole
