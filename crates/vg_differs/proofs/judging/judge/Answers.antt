-- For `judge`: what was found of what was read is found of what was loaded.
use Rattle.std.proofs.Common.{◌≡◌, subst}
use Rattle.std.specs.Prelude.{◌↔◌, IfOk}
use Rattle.vg_files.specs.Kinds.{vgd_visit}
use Rattle.vg_check.specs.declared.verdicts.Verdict.TheVariants as verdicts
use Rattle.vg_check.specs.Verdicts.{Case, case_of, IsVerdict, IsAccepted}
use Rattle.vg_differs.specs.Findings.{IsFound}
use Rattle.vg_differs.proofs.judging.judge.Goals as goal

pub returns-in-Ok-judge_checked-clause-verdict : goal.returns-in-Ok-judge_checked-clause-verdict
returns-in-Ok-judge_checked-clause-verdict c =
    let capture = c.in-Ok.input.capture in
    let plan = c.in-Ok.input.plan in
    let judged = c.in-Ok-judge_checked.judged in
    let IsSo : Case → Type 0 = λ case. IsVerdict case judged.verdict × ((judged.verdict ≡ verdicts.Yes) ↔ IsAccepted case) in
    let so : IsSo (case_of vgd_visit plan capture c.args.queue c.as_slice.result.now c.as_slice-2.result.now) =
    (c.in-Ok-judge_checked.ensures.verdict, c.in-Ok-judge_checked.ensures.yes) in
    let of_tx : IsSo (case_of vgd_visit plan capture c.args.queue c.args.files.tx c.as_slice-2.result.now) =
    subst (λ tx. IsSo (case_of vgd_visit plan capture c.args.queue tx c.as_slice-2.result.now)) c.as_slice.ensures so in
    let of_report : IsSo (case_of vgd_visit plan capture c.args.queue c.args.files.tx c.args.files.report) =
    subst (λ report. IsSo (case_of vgd_visit plan capture c.args.queue c.args.files.tx report)) c.as_slice-2.ensures of_tx in
    record {
      capture = capture;
      plan = plan;
      inputs = record { is_capture = c.in-Ok.ensures.read.is_capture; makes = c.in-Ok.ensures.read.makes };
      first = of_report.0;
      exact = of_report.1;
    }

pub returns-in-Ok-judge_checked-clause-found : goal.returns-in-Ok-judge_checked-clause-found
returns-in-Ok-judge_checked-clause-found c =
    let capture = c.in-Ok.input.capture in
    let plan = c.in-Ok.input.plan in
    let judged = c.in-Ok-judge_checked.judged in
    let IsSo : Case → Type 0 = λ case. IsVerdict case judged.verdict × IfOk judged.found (IsFound case judged.verdict) in
    let so : IsSo (case_of vgd_visit plan capture c.args.queue c.as_slice.result.now c.as_slice-2.result.now) =
    (c.in-Ok-judge_checked.ensures.verdict, c.in-Ok-judge_checked.ensures.found) in
    let of_tx : IsSo (case_of vgd_visit plan capture c.args.queue c.args.files.tx c.as_slice-2.result.now) =
    subst (λ tx. IsSo (case_of vgd_visit plan capture c.args.queue tx c.as_slice-2.result.now)) c.as_slice.ensures so in
    let of_report : IsSo (case_of vgd_visit plan capture c.args.queue c.args.files.tx c.args.files.report) =
    subst (λ report. IsSo (case_of vgd_visit plan capture c.args.queue c.args.files.tx report)) c.as_slice-2.ensures of_tx in
    record {
      capture = capture;
      plan = plan;
      inputs = record { is_capture = c.in-Ok.ensures.read.is_capture; makes = c.in-Ok.ensures.read.makes };
      first = of_report.0;
      found = of_report.1;
    }
