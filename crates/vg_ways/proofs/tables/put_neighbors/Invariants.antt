-- For `put_neighbors`: its loop.
use Rattle.std.proofs.Common.{◌≡◌, ◌++◌}
use Rattle.vg_ways.specs.Counts.{texts_below, neighbor_text}
use Rattle.vg_ways.specs.Tallies.{tally_in}
use Rattle.vg_ways.proofs.tables.put_neighbors.Given as goal

abbrev pub invariant-loop-number : goal.invariant-loop-number
invariant-loop-number l = l.out.items ≡ l.initial.out.items ++ texts_below (neighbor_text l.names (tally_in l.tally).left) l.number
