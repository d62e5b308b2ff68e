-- For `put_generations`: its loop.
use Rattle.std.proofs.Common.{◌≡◌, ◌++◌, map}
use Rattle.std.specs.Prelude.{slice_get}
use Rattle.vg_ways.specs.Counts.{texts_below, table_at}
use Rattle.vg_ways.specs.Logs.{tally_at}
use Rattle.vg_ways.specs.Tallies.{tally_in}
use Rattle.vg_ways.proofs.tables.put_generations.Given as goal

abbrev pub invariant-loop-generation : goal.invariant-loop-generation
invariant-loop-generation l = record {
  plan : l.stages.plan ≡ l.initial.stages.plan;
  text : l.out.items
      ≡ l.initial.out.items
      ++ texts_below (λ generation. table_at l.initial.stages.plan l.names generation (tally_at (map tally_in l.tallies) generation)
      (slice_get l.initial.stages.plan.graphs generation)) l.generation;
}
