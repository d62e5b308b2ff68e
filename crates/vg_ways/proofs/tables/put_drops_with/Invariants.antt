-- For `put_drops_with`: its loop.
use Rattle.std.proofs.Common.{◌≡◌, ◌++◌, take, flat_map}
use Rattle.vg_ways.specs.Counts.{drop_line}
use Rattle.vg_ways.specs.Tallies.{tally_in}
use Rattle.vg_ways.proofs.tables.put_drops_with.Given as goal

abbrev pub invariant-loop-error : goal.invariant-loop-error
invariant-loop-error l =
    l.out.items ≡ l.initial.out.items ++ flat_map (λ error. drop_line l.names l.node error ((tally_in l.tally).dropped l.node error)) (take l.error-index l.errors)
