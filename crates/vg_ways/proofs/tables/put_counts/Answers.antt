-- For `put_counts`: the tables of generations, that of all packets, and the last line.
use Rattle.std.proofs.Common.{List, ℕ, ◌++◌, length, map, ap, ap₂, subst, ◌∙◌}
use Rattle.std.specs.Prelude.{codes}
use Rattle.vg_ways.specs.Counts.{texts_below, generation_text, tables_text, all_text}
use Rattle.vg_ways.specs.Logs.{IsLogOf, within, all_of}
use Rattle.vg_ways.specs.Tallied.{tallied}
use Rattle.vg_ways.specs.Tallies.{tally_in}
use Rattle.vg_ways.proofs.TableLemmas.{tables_are, three}
use Rattle.vg_ways.proofs.tables.put_counts.Goals as goal

pub returns : goal.returns
returns c =
    let plan = c.args.stages.now.plan in
    let names = c.args.names.now in
    let entries = c.args.entries.now in
    let out : List ℕ = c.args.out.now.items in
    let log = c.in_ok-log.log in
    let end : List ℕ = codes "end\n" in
    let is : IsLogOf (length plan.graphs) entries log = subst (λ n. IsLogOf n entries log) c.generations.ensures c.in_ok-log.ensures in
    let tables : List ℕ = texts_below (generation_text plan names entries) (length plan.graphs) in
    let all : List ℕ = all_text plan names (tallied (all_of (within (length plan.graphs) entries))) in
    c.in_ok-put.ensures
    ∙ ap (λ xs. xs ++ end)
    (c.in_ok-put_all.ensures
    ∙ (λ i. c.in_ok-put_generations.ensures.text i ++ all_text (c.in_ok-put_generations.ensures.plan i) names (tally_in log.all))
    ∙ (λ i. (out ++ tables_text plan names (map tally_in (c.as_slice.ensures.value i))) ++ all_text plan names (tally_in log.all))
    ∙ ap₂ (λ t all. (out ++ t) ++ all_text plan names all) (tables_are plan names entries log is) is.all)
    ∙ three out tables all end
