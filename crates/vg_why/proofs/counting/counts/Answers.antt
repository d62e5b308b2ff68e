-- For `counts`: its clause.
use Rattle.std.proofs.Common.{◌<◌, ◌++◌, length, ap, subst, ◌∙◌, arith}
use Rattle.vg_check.proofs.ToldLemmas.{as_many}
use Rattle.vg_ways.specs.Counts.{counts_text}
use Rattle.vg_why.specs.Journeys.{Gone, AreEntries}
use Rattle.vg_why.specs.Trips.{gone_of}
use Rattle.vg_why.proofs.CountLemmas.{counts_are}
use Rattle.vg_why.proofs.counting.counts.Goals as goal

pub returns : goal.returns
returns g c = λ js are.
    let gone : Gone = gone_of g.K.KindSet.meaning c.args.input.now js in
    let names = c.args.names.now in
    let entries = c.in_ok-entries.entries.items in
    let some : 0 < length gone.plan.graphs = (let graphs = c.generations-generations.ensures.graphs in let events = c.generations-generations.ensures.events in
    omega (arith, graphs, events)) in
    let all : AreEntries gone (length js) entries = subst (λ n. AreEntries gone n entries) (as_many c.args.trips.now js are.told_is) (c.in_ok-entries.ensures js are) in
    counts_are gone some are.under names entries c.put_counts.new.out.items c.counts_add_up.ensures all
    (c.in_ok-put_counts.ensures
    ∙ ap (λ xs. xs ++ counts_text c.in_ok-stages.stages.plan names c.as_slice.result.now) c.new-out.ensures.items
    ∙ (λ i. counts_text (c.in_ok-stages.ensures.plan i) names (c.as_slice.ensures.value i)))
