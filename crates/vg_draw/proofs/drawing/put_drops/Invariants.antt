-- `put_drops`, the lines of all drops: the loop over the nodes.
use Rattle.std.proofs.Common.{◌≡◌, ◌++◌, take}
use Rattle.vg_draw.specs.Drawing.{all_drop_lines}
use Rattle.vg_draw.proofs.drawing.put_drops.Given as goal

abbrev pub invariant-loop-number : goal.invariant-loop-number
invariant-loop-number l = l.out.items ≡ l.fn.out.items ++ all_drop_lines l.report (take l.number l.graph.nodes)
