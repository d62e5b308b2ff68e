-- Each node and each arc that is drawn stands once in a drawing.
use Rattle.std.specs.Prelude.{◌≡◌, ℕ, List, [], length, slice_get, Option, Some, if◌then◌else◌}
use Rattle.vg_model.specs.declared.kinds.Kind.{Kind}
use Rattle.vg_model.specs.Graph.{Node}
use Rattle.vg_report.specs.declared.reports.Report.{Report}
use Rattle.vg_draw.specs.Drawing.{ways_of, node_line, is_drawn, drawn_line, arc_line, numbered}

-- the lines of the nodes of a drawing, by number; of a node that doesn't stand in it an empty one
abbrev pub lines_of_nodes : Option Report → List Node → List (List ℕ)
lines_of_nodes report nodes = numbered (λ number (node : Node). drawn_line (ways_of report nodes) report number node.name node.kind) 0 nodes

-- there are as many lines as nodes, and at the place of each number stands that of its node, where the node stands in the drawing
abbrev pub NodesStandOnce : Type 0
NodesStandOnce =
    (report : Option Report) (nodes : List Node)
    → (length (lines_of_nodes report nodes) ≡ length nodes)
    × ((i : ℕ) (node : Node) → slice_get nodes i ≡ Some node
    → slice_get (lines_of_nodes report nodes) i ≡ Some (if is_drawn (ways_of report nodes) i then node_line report i node.name node.kind else []))

-- a node has as many lines of arcs as arcs, and each arc's stands at the place of its slot
abbrev pub ArcsStandOnce : Type 0
ArcsStandOnce =
    (report : Option Report) (number : ℕ) (name : List ℕ) (kind : Kind) (arcs : List ℕ)
    → (length (numbered (arc_line report number name kind) 0 arcs) ≡ length arcs)
    × ((slot target : ℕ) → slice_get arcs slot ≡ Some target
    → slice_get (numbered (arc_line report number name kind) 0 arcs) slot ≡ Some (arc_line report number name kind slot target))
