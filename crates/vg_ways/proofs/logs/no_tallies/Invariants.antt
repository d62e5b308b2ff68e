-- For `no_tallies`: its loop.
use Rattle.std.proofs.Common.{◌≡◌, map}
use Rattle.std.specs.Prelude.{replicate}
use Rattle.vg_ways.specs.Logs.{none}
use Rattle.vg_ways.specs.Tallies.{tally_in}
use Rattle.vg_ways.proofs.logs.no_tallies.Given as goal

abbrev pub invariant-loop : goal.invariant-loop
invariant-loop l = map tally_in l.tallies.items ≡ replicate l.counter none
