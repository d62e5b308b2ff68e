-- Arcs that may be set.
use Rattle.std.specs.Prelude.{◌≡◌, ℕ, ◌<◌, false, List, length, slice_get, slice_set, Some, Ok}
use Rattle.vg_model.specs.Graph as model
use Rattle.vg_model.specs.Valid.{IsTarget}
use Rattle.vg_model.specs.Edit.{leads, with_arc}
use Rattle.vg_graph.specs.declared.graphs.NewArc.{NewArc}

-- the graph with an arc set at a node
abbrev pub with_arc_at : model.Graph → NewArc → model.Node → model.Graph
with_arc_at g arc node = record g { nodes = slice_set g.nodes arc.node (record node { arcs = slice_set node.arcs arc.slot arc.target }) }

-- this is the arc of these names, it may be set, and the edit sets it
pub record IsNewArc (g : model.Graph) (from slot to : List ℕ) (arc : NewArc) : Type 0 where
  pub node : model.Node
  pub here : slice_get g.nodes arc.node ≡ Some node
  pub within : arc.slot < length (model.slots node.kind)
  pub target : IsTarget (model.kind_at g arc.target)
  pub test : leads g (length g.nodes) arc.target arc.node ≡ false
  pub edit : with_arc g from slot to ≡ Ok (with_arc_at g arc node)
