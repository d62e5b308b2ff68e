use Rattle.std.proofs.Common.{sym, subst}
use Rattle.std.specs.Prelude.{Err}
use Rattle.std.proofs.lemmas.Result.{err_from_is_err_and}
use Rattle.vg_report.specs.declared.errors.ReportError.{ReportError}
use Rattle.vg_report.specs.Reading.{Rest, head_of, then_lines, report_behind, Answers, AnswersRead}
use Rattle.vg_report.proofs.HeadLemmas.{head_refused}
use Rattle.vg_report.proofs.reading.read_report.Goals as goal

pub returns-in_err-head : goal.returns-in_err-head
returns-in_err-head c =
    let p = err_from_is_err_and c.from_residual.result c.from_residual.ensures.1 in
    subst (AnswersRead c.args.text.now) (sym p.1)
    (subst (λ (e : ReportError). AnswersRead c.args.text.now (Err e)) (sym p.2)
    (subst (λ (s : Rest). Answers (then_lines (head_of s) report_behind) (Err c.in_err-head.field-0.0)) c.of-lines.ensures
    (head_refused c.of-lines.result c.in_err-head.field-0.0 c.in_err-head.ensures.value)))
