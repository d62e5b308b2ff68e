use Rattle.std.proofs.Common.{◌≡◌, ◌++◌, reverse, length}
use Rattle.vg_pool.proofs.stacks.BufferStack.reversed.Given as goal

abbrev pub invariant-loop-buffer : goal.invariant-loop-buffer
invariant-loop-buffer l = reverse l.fn.self ≡ reverse l.self ++ l.reversed

abbrev pub decreases-loop-buffer : goal.decreases-loop-buffer
decreases-loop-buffer l = length l.self
