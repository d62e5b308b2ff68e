-- For `put_routes`: its loop.
use Rattle.std.proofs.Common.{◌≡◌, ◌++◌, take}
use Rattle.vg_ways.specs.Counts.{routes_text}
use Rattle.vg_ways.specs.Tallies.{tally_in}
use Rattle.vg_ways.proofs.tables.put_routes.Given as goal

abbrev pub invariant-loop-route : goal.invariant-loop-route
invariant-loop-route l = l.out.items ≡ l.initial.out.items ++ routes_text l.names (tally_in l.tally).matched (take l.route-index l.routes)
