-- For `put_routes6`: its loop.
use Rattle.std.proofs.Common.{◌≡◌, ◌++◌, take}
use Rattle.vg_ways.specs.Counts.{routes6_text}
use Rattle.vg_ways.specs.Tallies.{tally_in}
use Rattle.vg_ways.proofs.tables.put_routes6.Given as goal

abbrev pub invariant-loop-route : goal.invariant-loop-route
invariant-loop-route l = l.out.items ≡ l.initial.out.items ++ routes6_text l.names (tally_in l.tally).matched6 (take l.route-index l.routes)
