-- For `text_of`: what its calls require, its clauses `many` and `under`.
use Rattle.std.proofs.Common.{◌≡◌, length, sym, subst}
use Rattle.vg_check.proofs.ToldLemmas.{as_many}
use Rattle.std.proofs.lemmas.Result.{IfOk-weaker}
use Rattle.vg_files.specs.Kinds.{vgd_visit}
use Rattle.vg_why.specs.declared.asks.Asked.{Asked}
use Rattle.vg_why.specs.Asked.{asked_shown}
use Rattle.vg_why.specs.Printed.{AreCounts, AreWays}
use Rattle.vg_why.specs.Texts.{IsTextOf}
use Rattle.vg_why.specs.Trips.{gone_of}
use Rattle.vg_why.proofs.FoundLemmas.{trips_many, trips_are, under}
use Rattle.vg_why.proofs.finding.text_of.Goals as goal

pub counts-requires-clause-many : goal.counts-requires-clause-many
counts-requires-clause-many c = trips_many c.args.input.now c.args.replayed.now c.requires.input c.requires.traced c.requires.replayed

pub counts-requires-clause-under : goal.counts-requires-clause-under
counts-requires-clause-under c = under c.args.input.now c.args.replayed.now c.requires.input c.requires.traced c.requires.replayed

pub returns-in-Counts : goal.returns-in-Counts
returns-in-Counts c =
    let js = c.requires.replayed.js in
    let gone = gone_of vgd_visit c.args.input.now js in
    let names = c.graph-names.result.now in
    IfOk-weaker c.counts.result (λ text. AreCounts gone names text.items) (λ text. IsTextOf c.args.input.now (asked_shown c.args.asked.now) text.items)
    (λ text h. subst (λ (a : Asked). IsTextOf c.args.input.now (asked_shown a) text.items) (sym c.in-Counts.is) (record {
      js = js;
      taken = c.requires.replayed.taken;
      names = names;
      are_names = record { last = c.args.replayed.now.last; is_last = c.requires.replayed.last; same = c.graph-names.ensures.graph };
      is_text = h;
    }))
    (c.counts.ensures js (trips_are c.args.input.now c.args.replayed.now c.requires.input c.requires.traced c.requires.replayed c.generations-generations.ensures.plan c.journeys_are_shown.ensures))

pub ways-requires-clause-many : goal.ways-requires-clause-many
ways-requires-clause-many c = trips_many c.args.input.now c.args.replayed.now c.requires.input c.requires.traced c.requires.replayed

pub ways-requires-clause-under : goal.ways-requires-clause-under
ways-requires-clause-under c = under c.args.input.now c.args.replayed.now c.requires.input c.requires.traced c.requires.replayed

pub returns-in-Packets : goal.returns-in-Packets
returns-in-Packets c =
    let js = c.requires.replayed.js in
    let gone = gone_of vgd_visit c.args.input.now js in
    let names = c.graph-names.result.now in
    let are = trips_are c.args.input.now c.args.replayed.now c.requires.input c.requires.traced c.requires.replayed c.generations-generations.ensures.plan c.journeys_are_shown.ensures in
    let many : length c.args.replayed.now.trips ≡ length js = as_many c.args.replayed.now.trips js are.told_is in
    IfOk-weaker c.ways.result (λ text. AreWays gone names (asked_shown c.args.asked.now) (length c.args.replayed.now.trips) text.items)
    (λ text. IsTextOf c.args.input.now (asked_shown c.args.asked.now) text.items)
    (λ text h. subst (λ (a : Asked). AreWays gone names (asked_shown a) (length js) text.items → IsTextOf c.args.input.now (asked_shown a) text.items) (sym c.in-Packets.is)
    (λ ways. record {
      js = js;
      taken = c.requires.replayed.taken;
      names = names;
      are_names = record { last = c.args.replayed.now.last; is_last = c.requires.replayed.last; same = c.graph-names.ensures.graph };
      is_text = ways;
    })
    (subst (λ n. AreWays gone names (asked_shown c.args.asked.now) n text.items) many h))
    (c.ways.ensures js are)

pub ways-requires-in-All-clause-many : goal.ways-requires-in-All-clause-many
ways-requires-in-All-clause-many c = trips_many c.args.input.now c.args.replayed.now c.requires.input c.requires.traced c.requires.replayed

pub ways-requires-in-All-clause-under : goal.ways-requires-in-All-clause-under
ways-requires-in-All-clause-under c = under c.args.input.now c.args.replayed.now c.requires.input c.requires.traced c.requires.replayed

pub returns-in-All : goal.returns-in-All
returns-in-All c =
    let js = c.requires.replayed.js in
    let gone = gone_of vgd_visit c.args.input.now js in
    let names = c.graph-names.result.now in
    let are = trips_are c.args.input.now c.args.replayed.now c.requires.input c.requires.traced c.requires.replayed c.generations-generations.ensures.plan c.journeys_are_shown.ensures in
    let many : length c.args.replayed.now.trips ≡ length js = as_many c.args.replayed.now.trips js are.told_is in
    IfOk-weaker c.ways-in-All.result (λ text. AreWays gone names (asked_shown c.args.asked.now) (length c.args.replayed.now.trips) text.items)
    (λ text. IsTextOf c.args.input.now (asked_shown c.args.asked.now) text.items)
    (λ text h. subst (λ (a : Asked). AreWays gone names (asked_shown a) (length js) text.items → IsTextOf c.args.input.now (asked_shown a) text.items) (sym c.in-All.is)
    (λ ways. record {
      js = js;
      taken = c.requires.replayed.taken;
      names = names;
      are_names = record { last = c.args.replayed.now.last; is_last = c.requires.replayed.last; same = c.graph-names.ensures.graph };
      is_text = ways;
    })
    (subst (λ n. AreWays gone names (asked_shown c.args.asked.now) n text.items) many h))
    (c.ways-in-All.ensures js are)
