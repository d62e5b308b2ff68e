-- The generations that packets go through.
use Rattle.std.specs.Prelude.{◌≡◌, ℕ, ◌<◌, ◌≤◌, List, length, slice_get, slice_index_or, Option, Some, None}
use Rattle.vg_model.specs.declared.routes.Prefix.{Prefix}
use Rattle.vg_model.specs.declared.routes.Prefix6.{Prefix6}
use Rattle.vg_model.specs.Graph.{Graph}
use Rattle.vg_plan.specs.Plan.{Planned}
use Rattle.vg_story.specs.declared.stages.Stage.{Stage}
use Rattle.vg_ways.specs.Lines.{lined, route_line, route6_line}

-- this stage has a graph, and the prefixes of its routes in their order, each with its line
pub record IsStageWith (g : Graph) (line : Prefix → ℕ) (line6 : Prefix6 → ℕ) (stage : Stage) : Type 0 where
  pub graph : stage.fork.graph ≡ g
  pub routes : stage.routes ≡ lined line g.routes
  pub routes6 : stage.routes6 ≡ lined line6 g.routes6

-- this is the generation of a number: its graph, and the prefixes of its routes in their order, each with the line that set it last
pub record IsStageOf (plan : Planned) (generation : ℕ) (stage : Stage) : Type 0 where
  pub graph : slice_get plan.graphs generation ≡ Some stage.fork.graph
  pub routes : stage.routes ≡ lined (route_line plan.script generation) stage.fork.graph.routes
  pub routes6 : stage.routes6 ≡ lined (route6_line plan.script generation) stage.fork.graph.routes6

-- what is kept of a generation, where it is kept
abbrev pub IsKeptOf : (plan : Planned) (generation : ℕ) → Option Stage → Type 0
IsKeptOf plan generation None = Unit {0}
IsKeptOf plan generation (Some stage) = IsStageOf plan generation stage

-- what contracts see of generations that are made: the plan, and those that are kept
pub record Shown : Type 0 where
  pub plan : Planned
  pub kept : List (Option Stage)

-- the generation is kept
abbrev pub kept_at : Shown → ℕ → Option Stage
kept_at shown generation = slice_index_or shown.kept generation None

-- what was kept at the places from one to another is forgotten, and nothing else
pub record AreForgotten (from before : ℕ) (old new : List (Option Stage)) : Type 0 where
  pub len : length new ≡ length old
  pub none : (place : ℕ) → from ≤ place → place < before → slice_index_or new place None ≡ None
  pub below : (place : ℕ) → place < from → slice_index_or new place None ≡ slice_index_or old place None
  pub above : (place : ℕ) → before ≤ place → slice_index_or new place None ≡ slice_index_or old place None
