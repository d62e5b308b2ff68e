-- What contracts see of a fork: a whole graph, and its generation.
use Rattle.std.specs.Prelude.{ℕ, List, []}
use Rattle.vg_model.specs.declared.routes.Prefix.{Prefix}
use Rattle.vg_model.specs.declared.routes.Prefix6.{Prefix6}
use Rattle.vg_model.specs.declared.routes.RouteTo.{RouteTo}
use Rattle.vg_model.specs.Graph.{Graph, with_routes}
use Rattle.vg_graph.specs.View.{IsKept}

-- a graph under its generation
pub record Forked : Type 0 where
  pub graph : Graph
  pub generation : ℕ

-- the graph without routes
abbrev pub without_routes : Graph → Graph
without_routes g = with_routes g [] []

-- a graph with these routes, under this generation
abbrev pub forked : Graph → List (Prefix × RouteTo) → List (Prefix6 × RouteTo) → ℕ → Forked
forked g routes routes6 generation = record { graph = with_routes g routes routes6; generation = generation }

-- what holds of every fork: but for the routes, whose adjacencies may be missing, its graph is valid and keeps the limits
abbrev pub IsForked : Forked → Type 0
IsForked f = IsKept (without_routes f.graph)
