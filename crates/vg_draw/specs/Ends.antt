-- Each line of a drawing ends at a node that stands in it.
use Rattle.std.specs.Prelude.{◌≡◌, ℕ, true, Option, Some, slice_get}
use Rattle.vg_model.specs.Graph.{Graph, Node, arc, handoff_dequeue, error_drop}
use Rattle.vg_model.specs.Valid.{IsValid}
use Rattle.vg_report.specs.declared.reports.Report.{Report}
use Rattle.vg_draw.specs.Drawing.{ways_of, hands_over, has_drop, is_drawn}

-- the nodes that lines of a graph's drawing lead to stand in it
pub record HasItsEnds (report : Option Report) (g : Graph) : Type 0 where
  -- the target of each arc
  pub arcs : (number slot target : ℕ) → arc g number slot ≡ Some target → is_drawn (ways_of report g.nodes) target ≡ true
  -- the node that takes packets from the queues, where a node hands packets over
  pub handed : (number : ℕ) (node : Node) → slice_get g.nodes number ≡ Some node → hands_over node.kind ≡ true
      → is_drawn (ways_of report g.nodes) handoff_dequeue ≡ true
  -- the node that drops, where the report has a drop of a node
  pub dropped : (number : ℕ) (node : Node) → slice_get g.nodes number ≡ Some node → has_drop report node.name ≡ true
      → is_drawn (ways_of report g.nodes) error_drop ≡ true

-- so it is in each drawing of a valid graph
abbrev pub LinesEndAtNodes : Type 0
LinesEndAtNodes = (report : Option Report) (g : Graph) → IsValid g → HasItsEnds report g
