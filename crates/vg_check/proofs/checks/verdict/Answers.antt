use Rattle.std.proofs.Common.{List, length, refl, ap, arith}
use Rattle.vg_model.specs.Journey.{Course}
use Rattle.vg_report.specs.declared.reports.Report.{Report}
use Rattle.vg_replay.specs.declared.replaying.Replayed.{Replayed}
use Rattle.vg_check.specs.Verdicts.{Case, case_of}
use Rattle.vg_check.proofs.ReportLemmas.{IsKnown}
use Rattle.vg_check.proofs.CheckLemmas.{IsMade, made, long, few, as_many_lines, workers_are, refused, reports, other_text, other_file, all_same}
use Rattle.vg_check.proofs.checks.verdict.Goals as goal

pub first_unlawful-requires-clause-few : goal.first_unlawful-requires-clause-few
first_unlawful-requires-clause-few g c =
    let case : Case = case_of g.K.KindSet.meaning c.args.plan.now c.args.capture.now c.args.queue c.args.tx.now c.args.text.now in
    let report : Report = c.in-Ok.report in
    let replayed : Replayed = c.in-Ok-replay.replayed in
    let trips : List Course = c.in-Ok-replay.replayed.trips in
    let known : IsKnown case = record { plan = c.know_plan.ensures.plan; events = c.know_plan.ensures.events; few = c.know_plan.ensures.few; kinds = g.met.K.KindSet.lawful } in
    let m : IsMade case report replayed trips =
    made case report replayed trips (length c.as_slice.result.now) c.in_ok-report.field-0 known c.in_ok-report.ensures c.in-Ok.is (c.is_head.ensures.0 c.if-not-is_head.false) (ap length c.as_slice.ensures)
    c.in-Ok-replay.ensures.replayed refl in
    few case report replayed trips m

pub first_unlawful-requires-clause-lines : goal.first_unlawful-requires-clause-lines
first_unlawful-requires-clause-lines g c =
    let case : Case = case_of g.K.KindSet.meaning c.args.plan.now c.args.capture.now c.args.queue c.args.tx.now c.args.text.now in
    let report : Report = c.in-Ok.report in
    let replayed : Replayed = c.in-Ok-replay.replayed in
    let trips : List Course = c.in-Ok-replay.replayed.trips in
    let known : IsKnown case = record { plan = c.know_plan.ensures.plan; events = c.know_plan.ensures.events; few = c.know_plan.ensures.few; kinds = g.met.K.KindSet.lawful } in
    let m : IsMade case report replayed trips =
    made case report replayed trips (length c.as_slice.result.now) c.in_ok-report.field-0 known c.in_ok-report.ensures c.in-Ok.is (c.is_head.ensures.0 c.if-not-is_head.false) (ap length c.as_slice.ensures)
    c.in-Ok-replay.ensures.replayed refl in
    as_many_lines case report replayed trips m

pub first_unlawful-requires-clause-workers : goal.first_unlawful-requires-clause-workers
first_unlawful-requires-clause-workers g c =
    let case : Case = case_of g.K.KindSet.meaning c.args.plan.now c.args.capture.now c.args.queue c.args.tx.now c.args.text.now in
    let report : Report = c.in-Ok.report in
    let replayed : Replayed = c.in-Ok-replay.replayed in
    let trips : List Course = c.in-Ok-replay.replayed.trips in
    let known : IsKnown case = record { plan = c.know_plan.ensures.plan; events = c.know_plan.ensures.events; few = c.know_plan.ensures.few; kinds = g.met.K.KindSet.lawful } in
    let m : IsMade case report replayed trips =
    made case report replayed trips (length c.as_slice.result.now) c.in_ok-report.field-0 known c.in_ok-report.ensures c.in-Ok.is (c.is_head.ensures.0 c.if-not-is_head.false) (ap length c.as_slice.ensures)
    c.in-Ok-replay.ensures.replayed refl in
    workers_are case report replayed trips m

pub returns-in-Some : goal.returns-in-Some
returns-in-Some g c =
    let case : Case = case_of g.K.KindSet.meaning c.args.plan.now c.args.capture.now c.args.queue c.args.tx.now c.args.text.now in
    let report : Report = c.in-Ok.report in
    let replayed : Replayed = c.in-Ok-replay.replayed in
    let trips : List Course = c.in-Ok-replay.replayed.trips in
    let known : IsKnown case = record { plan = c.know_plan.ensures.plan; events = c.know_plan.ensures.events; few = c.know_plan.ensures.few; kinds = g.met.K.KindSet.lawful } in
    let m : IsMade case report replayed trips =
    made case report replayed trips (length c.as_slice.result.now) c.in_ok-report.field-0 known c.in_ok-report.ensures c.in-Ok.is (c.is_head.ensures.0 c.if-not-is_head.false) (ap length c.as_slice.ensures)
    c.in-Ok-replay.ensures.replayed refl in
    refused case report replayed trips m c.first_unlawful.result c.first_unlawful.ensures c.in-Some.number c.in-Some.is

pub is_reported-requires : goal.is_reported-requires
is_reported-requires g c =
    let case : Case = case_of g.K.KindSet.meaning c.args.plan.now c.args.capture.now c.args.queue c.args.tx.now c.args.text.now in
    let report : Report = c.in-Ok.report in
    let replayed : Replayed = c.in-Ok-replay.replayed in
    let trips : List Course = c.in-Ok-replay.replayed.trips in
    let known : IsKnown case = record { plan = c.know_plan.ensures.plan; events = c.know_plan.ensures.events; few = c.know_plan.ensures.few; kinds = g.met.K.KindSet.lawful } in
    let m : IsMade case report replayed trips =
    made case report replayed trips (length c.as_slice.result.now) c.in_ok-report.field-0 known c.in_ok-report.ensures c.in-Ok.is (c.is_head.ensures.0 c.if-not-is_head.false) (ap length c.as_slice.ensures)
    c.in-Ok-replay.ensures.replayed refl in
    reports case report replayed trips m c.first_unlawful.result c.first_unlawful.ensures c.in_default.not-Some

pub returns-then-not-reported : goal.returns-then-not-reported
returns-then-not-reported g c =
    let case : Case = case_of g.K.KindSet.meaning c.args.plan.now c.args.capture.now c.args.queue c.args.tx.now c.args.text.now in
    let report : Report = c.in-Ok.report in
    let replayed : Replayed = c.in-Ok-replay.replayed in
    let trips : List Course = c.in-Ok-replay.replayed.trips in
    let known : IsKnown case = record { plan = c.know_plan.ensures.plan; events = c.know_plan.ensures.events; few = c.know_plan.ensures.few; kinds = g.met.K.KindSet.lawful } in
    let m : IsMade case report replayed trips =
    made case report replayed trips (length c.as_slice.result.now) c.in_ok-report.field-0 known c.in_ok-report.ensures c.in-Ok.is (c.is_head.ensures.0 c.if-not-is_head.false) (ap length c.as_slice.ensures)
    c.in-Ok-replay.ensures.replayed refl in
    other_text case report replayed trips m c.first_unlawful.result c.first_unlawful.ensures c.in_default.not-Some
    c.in_ok-reported.reported c.in_ok-reported.ensures.same c.in_ok-reported.ensures.lawful c.if-not-reported.true

pub is_saved-requires : goal.is_saved-requires
is_saved-requires g c =
    let case : Case = case_of g.K.KindSet.meaning c.args.plan.now c.args.capture.now c.args.queue c.args.tx.now c.args.text.now in
    let report : Report = c.in-Ok.report in
    let replayed : Replayed = c.in-Ok-replay.replayed in
    let trips : List Course = c.in-Ok-replay.replayed.trips in
    let known : IsKnown case = record { plan = c.know_plan.ensures.plan; events = c.know_plan.ensures.events; few = c.know_plan.ensures.few; kinds = g.met.K.KindSet.lawful } in
    let m : IsMade case report replayed trips =
    made case report replayed trips (length c.as_slice.result.now) c.in_ok-report.field-0 known c.in_ok-report.ensures c.in-Ok.is (c.is_head.ensures.0 c.if-not-is_head.false) (ap length c.as_slice.ensures)
    c.in-Ok-replay.ensures.replayed refl in
    let e = long case report replayed trips m in omega (arith, e)

pub returns-then-not-saved : goal.returns-then-not-saved
returns-then-not-saved g c =
    let case : Case = case_of g.K.KindSet.meaning c.args.plan.now c.args.capture.now c.args.queue c.args.tx.now c.args.text.now in
    let report : Report = c.in-Ok.report in
    let replayed : Replayed = c.in-Ok-replay.replayed in
    let trips : List Course = c.in-Ok-replay.replayed.trips in
    let known : IsKnown case = record { plan = c.know_plan.ensures.plan; events = c.know_plan.ensures.events; few = c.know_plan.ensures.few; kinds = g.met.K.KindSet.lawful } in
    let m : IsMade case report replayed trips =
    made case report replayed trips (length c.as_slice.result.now) c.in_ok-report.field-0 known c.in_ok-report.ensures c.in-Ok.is (c.is_head.ensures.0 c.if-not-is_head.false) (ap length c.as_slice.ensures)
    c.in-Ok-replay.ensures.replayed refl in
    other_file case report replayed trips m c.first_unlawful.result c.first_unlawful.ensures c.in_default.not-Some
    c.in_ok-reported.reported c.in_ok-reported.ensures.same c.if-not-reported.false c.in_ok-saved.saved c.in_ok-saved.ensures c.if-not-saved.true

pub returns : goal.returns
returns g c =
    let case : Case = case_of g.K.KindSet.meaning c.args.plan.now c.args.capture.now c.args.queue c.args.tx.now c.args.text.now in
    let report : Report = c.in-Ok.report in
    let replayed : Replayed = c.in-Ok-replay.replayed in
    let trips : List Course = c.in-Ok-replay.replayed.trips in
    let known : IsKnown case = record { plan = c.know_plan.ensures.plan; events = c.know_plan.ensures.events; few = c.know_plan.ensures.few; kinds = g.met.K.KindSet.lawful } in
    let m : IsMade case report replayed trips =
    made case report replayed trips (length c.as_slice.result.now) c.in_ok-report.field-0 known c.in_ok-report.ensures c.in-Ok.is (c.is_head.ensures.0 c.if-not-is_head.false) (ap length c.as_slice.ensures)
    c.in-Ok-replay.ensures.replayed refl in
    all_same case report replayed trips m c.first_unlawful.result c.first_unlawful.ensures c.in_default.not-Some
    c.in_ok-reported.reported c.in_ok-reported.ensures.same c.if-not-reported.false c.in_ok-saved.saved c.in_ok-saved.ensures c.if-not-saved.false
