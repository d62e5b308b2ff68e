-- For `report_told`: its clauses `stop` and `text`.
use Rattle.std.proofs.lemmas.Bool.{iff_false}
use Rattle.std.proofs.lemmas.Result.{IfOk-weaker, IfErr-weaker}
use Rattle.vg_files.specs.Stops.{OnRefusal}
use Rattle.vg_check.specs.Verdicts.{Case, IsHeaded}
use Rattle.vg_why.specs.Asked.{Asked, asked_shown}
use Rattle.vg_why.specs.Reading.{IsReportRefusal}
use Rattle.vg_why.specs.Texts.{case_with, IsToldOf, IsToldBy, IsUntold, IsUntoldBy}
use Rattle.vg_why.proofs.FoundLemmas.{untold_text, untold_headed, told_headed}
use Rattle.vg_why.proofs.RunLemmas.{on_refusal}
use Rattle.vg_why.proofs.finding.report_told.Goals as goal

pub returns-in-Err-clause-stop : goal.returns-in-Err-clause-stop
returns-in-Err-clause-stop c =
    let asked : Asked = asked_shown c.args.asked.now in
    let case : Case = case_with c.args.plan.now c.args.capture.now c.args.text.now in
    on_refusal (IsReportRefusal c.args.text.now) (IsUntoldBy asked case) c.in-Err.stop (untold_text asked case) c.in-Err.ensures.stop

pub returns-then-not-is_head-clause-stop : goal.returns-then-not-is_head-clause-stop
returns-then-not-is_head-clause-stop c = (c.in-Ok.report, c.in-Ok.ensures.report, iff_false c.is_head.ensures c.if-not-is_head.true)

pub returns-clause-text : goal.returns-clause-text
returns-clause-text c =
    let asked : Asked = asked_shown c.args.asked.now in
    let case : Case = case_with c.args.plan.now c.args.capture.now c.args.text.now in
    let headed : IsHeaded case c.in-Ok.report = record { is_report = c.in-Ok.ensures.report; head = c.is_head.ensures.0 c.if-not-is_head.false } in
    IfOk-weaker c.journeys_told.result (IsToldOf asked case c.in-Ok.report) (IsToldBy asked case) (λ text h. told_headed asked case c.in-Ok.report text headed h) (c.journeys_told.ensures.text c.args.text.now)

pub returns-clause-stop : goal.returns-clause-stop
returns-clause-stop c =
    let asked : Asked = asked_shown c.args.asked.now in
    let case : Case = case_with c.args.plan.now c.args.capture.now c.args.text.now in
    let headed : IsHeaded case c.in-Ok.report = record { is_report = c.in-Ok.ensures.report; head = c.is_head.ensures.0 c.if-not-is_head.false } in
    IfErr-weaker c.journeys_told.result (OnRefusal (IsUntold asked case c.in-Ok.report)) (OnRefusal (IsUntoldBy asked case))
    (λ stop h. on_refusal (IsUntold asked case c.in-Ok.report) (IsUntoldBy asked case) stop (λ refusal. untold_headed asked case c.in-Ok.report refusal headed) h) (c.journeys_told.ensures.stop c.args.text.now)
