-- `turns`, the packets of pairs with their flows: the loop over the pairs.
use Rattle.std.proofs.Common.{◌≡◌, map, take}
use Rattle.vg_diff.specs.Orders.{coming_with, coming_of}
use Rattle.vg_diff.proofs.flows.turns.Given as goal

abbrev pub invariant-loop-pair : goal.invariant-loop-pair
invariant-loop-pair l = map coming_with l.turns.items ≡ map (coming_of l.frames l.starts) (take l.pair-index l.pairs)
