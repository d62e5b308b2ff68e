use Rattle.std.proofs.Common.{◌≡◌, ◌++◌, take}
use Rattle.vg_draw.specs.Drawing.{interface_lines}
use Rattle.vg_draw.proofs.drawing.put_interfaces.Given as goal

abbrev pub invariant-loop-number : goal.invariant-loop-number
invariant-loop-number l = l.out.items ≡ l.fn.out.items ++ interface_lines l.report (take l.number l.graph.interfaces)
