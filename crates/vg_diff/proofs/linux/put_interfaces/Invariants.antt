-- `put_interfaces`, the commands for the interfaces: the loop over their numbers.
use Rattle.std.proofs.Common.{◌≡◌, ◌++◌}
use Rattle.vg_diff.specs.Linux.{of_each, interface_at}
use Rattle.vg_diff.proofs.linux.put_interfaces.Given as goal

abbrev pub invariant-loop-number : goal.invariant-loop-number
invariant-loop-number l = l.out.items ≡ l.fn.out.items ++ of_each (interface_at l.graph) l.number
