use Rattle.std.proofs.Common.{◌≡◌, ◌++◌, map, take, drop}
use Rattle.vg_fib.specs.Order.{moved_down}
use Rattle.vg_fib.proofs.table.close_gap.Given as goal

abbrev pub invariant-loop-other : goal.invariant-loop-other
invariant-loop-other l = l.order ≡ map (moved_down l.place) (take l.other-index l.initial.order) ++ drop l.other-index l.initial.order
