use Rattle.std.proofs.Common.{◌≡◌, ◌++◌, take}
use Rattle.vg_model.specs.Graph.{next_nodes}
use Rattle.vg_draw.specs.Drawing.{arc_lines}
use Rattle.vg_draw.proofs.drawing.put_arcs_of.Given as goal

abbrev pub invariant-loop-slot : goal.invariant-loop-slot
invariant-loop-slot l = l.out.items ≡ l.initial.out.items ++ arc_lines l.report l.number l.name l.kind (take l.slot (next_nodes l.graph l.number))
