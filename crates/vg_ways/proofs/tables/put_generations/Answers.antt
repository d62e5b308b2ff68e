-- For `put_generations`: what its calls require, its loop, its clause `text`.
use Rattle.std.proofs.Common.{◌≡◌, ◌<◌, ◌++◌, length, map, sym, ap, subst, ◌∙◌, arith}
use Rattle.std.specs.Prelude.{slice_get}
use Rattle.std.proofs.lemmas.List.{length-map}
use Rattle.vg_plan.specs.Plan.{Planned}
use Rattle.vg_ways.specs.Counts.{texts_below, table_at}
use Rattle.vg_ways.specs.Logs.{tally_at}
use Rattle.vg_ways.specs.Tallies.{tally_in}
use Rattle.vg_ways.proofs.CountLemmas.{tally_read}
use Rattle.vg_ways.proofs.TableLemmas.{text_more}
use Rattle.vg_ways.proofs.tables.put_generations.Goals as goal

pub put_generation-requires : goal.put_generation-requires
put_generation-requires c =
    subst (λ (plan : Planned). c.loop-generation.generation < length plan.graphs) (sym c.loop-generation.invariant.plan)
    (let count = c.generations-generation-end.ensures in let test = c.loop-generation-test.true in omega (arith, count, test))

pub loop-generation-preserved : goal.loop-generation-preserved
loop-generation-preserved c =
    let plan = c.args.stages.now.plan in
    let names = c.args.names.now in
    let g = c.loop-generation.generation in
    let tallies = c.args.tallies.now in
    let tally = c.index-tallies-generation.result in
    let within : g < length tallies = (let count = c.generations-generation-end.ensures in let test = c.loop-generation-test.true in let many = c.requires in omega (arith, count, test, many)) in
    let is : tally_in tally ≡ tally_at (map tally_in tallies) g = tally_read tally_in tallies g tally within c.index-tallies-generation.is in
    record {
      plan = c.in_ok-put_generation.ensures.plan ∙ c.loop-generation.invariant.plan;
      text = text_more (λ generation. table_at plan names generation (tally_at (map tally_in tallies) generation) (slice_get plan.graphs generation)) g
          c.args.out.now.items c.loop-generation.invariant.text
          (c.in_ok-put_generation.ensures.text
          ∙ (λ i. c.loop-generation.out.items
          ++ table_at (c.loop-generation.invariant.plan i) names g (is i) (slice_get (c.loop-generation.invariant.plan i).graphs g)));
    }

pub returns-clause-text : goal.returns-clause-text
returns-clause-text c =
    let plan = c.args.stages.now.plan in
    let names = c.args.names.now in
    let tallies = c.args.tallies.now in
    let all : c.loop-generation.generation ≡ length tallies =
    (let count = c.generations-generation-end.ensures in let most = c.loop-generation.auto.generation-end in let least = c.loop-generation-test.false in let many = c.requires in
    omega (arith, count, most, least, many)) in
    c.loop-generation.invariant.text
    ∙ ap (λ n. c.args.out.now.items ++ texts_below (λ generation. table_at plan names generation (tally_at (map tally_in tallies) generation)
    (slice_get plan.graphs generation)) n) (all ∙ sym (length-map tallies tally_in))
