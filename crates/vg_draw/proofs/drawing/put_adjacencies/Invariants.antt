-- `put_adjacencies`, the lines of the neighbors: the loop over their numbers.
use Rattle.std.proofs.Common.{◌≡◌, ◌++◌, take}
use Rattle.vg_draw.specs.Prefixes.{seen}
use Rattle.vg_draw.specs.Drawing.{adjacency_lines}
use Rattle.vg_draw.proofs.drawing.put_adjacencies.Given as goal

abbrev pub invariant-loop-number : goal.invariant-loop-number
invariant-loop-number l = l.out.items ≡ l.fn.out.items ++ adjacency_lines (seen l.before) (seen l.routes) (take l.number l.graph.adjacencies)
