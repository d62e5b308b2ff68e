-- `turns`, the packets of pairs: the loop over the pairs.
use Rattle.std.proofs.Common.{◌≡◌, map, take}
use Rattle.vg_diff.specs.Orders.{turn_of}
use Rattle.vg_diff.proofs.orders.turns.Given as goal

abbrev pub invariant-loop-pair : goal.invariant-loop-pair
invariant-loop-pair l = l.turns.items ≡ map (turn_of l.hashes l.starts) (take l.pair-index l.pairs)
