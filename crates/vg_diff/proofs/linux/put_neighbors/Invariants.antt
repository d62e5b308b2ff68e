-- `put_neighbors`, the commands for the neighbors: the loop over their numbers.
use Rattle.std.proofs.Common.{◌≡◌, ◌++◌}
use Rattle.vg_diff.specs.Linux.{of_each, neighbor_at}
use Rattle.vg_diff.proofs.linux.put_neighbors.Given as goal

abbrev pub invariant-loop-number : goal.invariant-loop-number
invariant-loop-number l = l.out.items ≡ l.fn.out.items ++ of_each (neighbor_at l.graph) l.number
