use Rattle.std.proofs.Common.{◌≡◌, ◌++◌, length}
use Rattle.std.specs.VecDeque.{deque_capacity}
use Rattle.vg_backlog.proofs.waiting.take_first.Given as goal

abbrev pub invariant-packets : goal.invariant-packets
invariant-packets l = (l.packets ++ l.buffers.items ≡ l.initial.buffers.items) × (length l.packets ≡ l.place) × (deque_capacity l.buffers ≡ deque_capacity l.initial.buffers)
