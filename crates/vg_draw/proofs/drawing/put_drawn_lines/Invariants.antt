-- `put_drawn_lines`, the lines of the nodes: the loop over their numbers.
use Rattle.std.proofs.Common.{◌≡◌, ◌++◌, take}
use Rattle.vg_draw.specs.Drawing.{drawn_lines}
use Rattle.vg_draw.proofs.drawing.put_drawn_lines.Given as goal

abbrev pub invariant-loop-number : goal.invariant-loop-number
invariant-loop-number l = l.out.items ≡ l.fn.out.items ++ drawn_lines l.ways l.report (take l.number l.graph.nodes)
