-- What contracts see of a graph: its nodes, interfaces and adjacencies, in a whole graph without routes.
use Rattle.std.specs.Prelude.{◌≡◌, ◌≤◌, [], length, map}
use Rattle.vg_model.specs.Graph as model
use Rattle.vg_model.specs.Valid.{IsValid}
use Rattle.vg_model.specs.Edit.{most_nodes, most_interfaces, most_adjacencies}
use Rattle.vg_graph.specs.declared.nodes.Node.{Node}
use Rattle.vg_graph.specs.declared.graphs.Graph.TheInside.{Inside}

-- a node of the graph
abbrev pub node_of : Node → model.Node
node_of n = record { name = n.name; kind = n.kind; arcs = n.arcs.items }

-- the whole graph of these fields
abbrev pub whole : Inside → model.Graph
whole g = record { nodes = map node_of g.nodes.items; interfaces = g.interfaces.items; adjacencies = g.adjacencies.items; routes = []; routes6 = [] }

-- what holds of every graph: it is valid, has no routes, and keeps the limits
pub record IsKept (g : model.Graph) : Type 0 where
  pub valid : IsValid g
  pub no_routes : g.routes ≡ []
  pub no_routes6 : g.routes6 ≡ []
  pub few_nodes : length g.nodes ≤ most_nodes
  pub few_interfaces : length g.interfaces ≤ most_interfaces
  pub few_adjacencies : length g.adjacencies ≤ most_adjacencies
