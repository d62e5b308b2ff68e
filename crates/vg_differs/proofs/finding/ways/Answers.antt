-- For the replay of `ways`, and what it returns.
use Rattle.std.proofs.Common.{ap, subst, length}
use Rattle.vg_report.specs.declared.reports.Report.{Report}
use Rattle.vg_check.specs.Verdicts.{Case, task_by}
use Rattle.vg_replay.specs.Replays.{AreReplayed}
use Rattle.vg_check.proofs.ReportLemmas.{IsKnown}
use Rattle.vg_differs.specs.Findings.{case_checked}
use Rattle.vg_differs.proofs.FindingLemmas.{lawful, headed, ways_again}
use Rattle.vg_differs.proofs.finding.ways.Goals as goal

pub replay-requires : goal.replay-requires
replay-requires g c =
    let case : Case = case_checked g.K.KindSet.meaning c.args.checked.now in
    let report : Report = c.in_ok-report.report in
    let is = c.in_ok-report.ensures in
    record { workers = (lawful case c.requires report is).workers; lines = (headed case c.requires report is).head.packets }

pub returns-in-Ok : goal.returns-in-Ok
returns-in-Ok g c =
    let case : Case = case_checked g.K.KindSet.meaning c.args.checked.now in
    let report : Report = c.in_ok-report.report in
    let known : IsKnown case = record { plan = c.know_plan.ensures.plan; events = c.know_plan.ensures.events; few = c.know_plan.ensures.few; kinds = g.met.K.KindSet.lawful } in
    ways_again case c.requires report c.in_ok-report.ensures c.in-Ok.replayed known
    (subst (λ n. AreReplayed (task_by case report) n c.in-Ok.replayed) (ap length c.as_slice.ensures) c.in-Ok.ensures.replayed)
