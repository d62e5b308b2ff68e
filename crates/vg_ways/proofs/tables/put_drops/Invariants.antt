-- For `put_drops`: its loop.
use Rattle.std.proofs.Common.{◌≡◌, ◌++◌}
use Rattle.vg_ways.specs.Counts.{texts_below, node_text}
use Rattle.vg_ways.specs.Tallies.{tally_in}
use Rattle.vg_ways.proofs.tables.put_drops.Given as goal

abbrev pub invariant-loop-node : goal.invariant-loop-node
invariant-loop-node l = l.out.items ≡ l.initial.out.items ++ texts_below (node_text l.names (tally_in l.tally).dropped) l.node
