use Rattle.std.proofs.Common.{◌≡◌, ◌++◌, length}
use Rattle.std.specs.VecDeque.{deque_capacity}
use Rattle.vg_backlog.proofs.waiting.put_all.Given as goal

abbrev pub invariant-packets : goal.invariant-packets
invariant-packets l = (l.buffers.items ++ l.packets ≡ l.initial.buffers.items ++ l.fn.packets) × (deque_capacity l.buffers ≡ deque_capacity l.initial.buffers)

abbrev pub decreases-packets : goal.decreases-packets
decreases-packets l = length l.packets
