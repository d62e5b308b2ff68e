use Rattle.std.proofs.Common.{◌++◌}
use Rattle.vg_fib.specs.Numbers.{AreFrom}
use Rattle.vg_fib.proofs.trie.by_level.Given as goal

-- the places so far stand in the three lists
abbrev pub invariant-loop-place : goal.invariant-loop-place
invariant-loop-place l = AreFrom l.known l.place ((l.order.items ++ l.middle.items) ++ l.long.items)
